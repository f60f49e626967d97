-- JSON texts of names are equal exactly where the names are.
use Rattle.std.proofs.Common.{◌≡◌, ℕ, ◌&&◌, ◌==◌, List, [], ◌∷◌, ◌++◌, get_or, map, drop, Some, Bool, true, false, unwrap_or, refl, sym, ap, ◌∙◌, subst, append_assoc, true≢false, arith}
use Rattle.std.proofs.lemmas.List.{append_cancel_left}
use Rattle.std.proofs.lemmas.Bool.Decides.{nat_tests}
use Rattle.std.specs.Str.{bytes_eq}
use Rattle.std.proofs.lemmas.Slice.Eq.{bytes_eq-Decides}
use Rattle.json.specs.Print.{escape, quoted}
use Rattle.json.specs.Text.{content, plain}
use Rattle.json.proofs.Printed.Strings.{content-escape}
use Rattle.serde_json.specs.Data.{string}
use Rattle.serde_json.specs.View.{items_of}
use Rattle.serde_json.specs.Written.{compact_text, items_text}
use Rattle.kube_final.specs.Finalizers.{names_data}
use Rattle.kube_final.specs.Lives.{same_names}

some-same : {A : Type 0} (a b : A) → Some a ≡ Some b → a ≡ b
some-same a b e = ap (λ o. unwrap_or o a) e

-- a text in quotes ends where it ends
pub quoted-same : (a b r s : List ℕ) → quoted a ++ r ≡ quoted b ++ s → (a ≡ b) × (r ≡ s)
quoted-same a b r s e =
    let behind : escape a ++ 34 ∷ r ≡ escape b ++ 34 ∷ s = sym (append_assoc (escape a) (34 ∷ []) r) ∙ ap (drop 1) e ∙ append_assoc (escape b) (34 ∷ []) s in
    let same : a ≡ b = some-same a b (sym (content-escape a r) ∙ ap (content plain) behind ∙ content-escape b s) in
    let rest : escape a ++ 34 ∷ r ≡ escape a ++ 34 ∷ s = behind ∙ ap (λ x. escape x ++ 34 ∷ s) (sym same) in
    (same, ap (drop 1) (append_cancel_left (escape a) (34 ∷ r) (34 ∷ s) rest))

-- texts that begin with other letters
apart : (x y : ℕ) (xs ys : List ℕ) → (x == y) ≡ false → x ∷ xs ≡ y ∷ ys → ⊥
apart x y xs ys h e = let same : x ≡ y = ap (λ l. get_or l 0 0) e in grind (arith, nat_tests)

-- from the second on
more-same : (ns ms : List (List ℕ)) → items_text true (items_of (map string ns)) ≡ items_text true (items_of (map string ms)) → ns ≡ ms
more-same [] [] e = refl
more-same [] (b ∷ ms) e = absurd (apart 93 44 _ _ refl e)
more-same (a ∷ ns) [] e = absurd (apart 44 93 _ _ refl e)
more-same (a ∷ ns) (b ∷ ms) e =
    let both = quoted-same a b (items_text true (items_of (map string ns))) (items_text true (items_of (map string ms))) (ap (drop 1) e) in
    ap (λ x. x ∷ ns) both.0 ∙ ap (λ xs. b ∷ xs) (more-same ns ms both.1)

all-same : (ns ms : List (List ℕ)) → items_text false (items_of (map string ns)) ≡ items_text false (items_of (map string ms)) → ns ≡ ms
all-same [] [] e = refl
all-same [] (b ∷ ms) e = absurd (apart 93 34 _ _ refl e)
all-same (a ∷ ns) [] e = absurd (apart 34 93 _ _ refl e)
all-same (a ∷ ns) (b ∷ ms) e =
    let both = quoted-same a b (items_text true (items_of (map string ns))) (items_text true (items_of (map string ms))) e in
    ap (λ x. x ∷ ns) both.0 ∙ ap (λ xs. b ∷ xs) (more-same ns ms both.1)

-- two tests that hold together
pub alike : (p q : Bool) → (p ≡ true → q ≡ true) → (q ≡ true → p ≡ true) → p ≡ q
alike true q h k = sym (h refl)
alike false true h k = k refl
alike false false h k = refl

both-hold : (p q : Bool) → p ≡ true → q ≡ true → (p && q) ≡ true
both-hold p q h k = rw (h, k) refl

first-holds : (p q : Bool) → (p && q) ≡ true → p ≡ true
first-holds true q h = refl
first-holds false q h = h

second-holds : (p q : Bool) → (p && q) ≡ true → q ≡ true
second-holds true q h = h
second-holds false q h = absurd (true≢false (sym h))

pub same_names-refl : (ns : List (List ℕ)) → same_names ns ns ≡ true
same_names-refl [] = refl
same_names-refl (a ∷ ns) = both-hold (bytes_eq a a) (same_names ns ns) ((bytes_eq-Decides a a).1 refl) (same_names-refl ns)

pub same_names-same : (ns ms : List (List ℕ)) → same_names ns ms ≡ true → ns ≡ ms
same_names-same [] [] h = refl
same_names-same [] (b ∷ ms) h = absurd (true≢false (sym h))
same_names-same (a ∷ ns) [] h = absurd (true≢false (sym h))
same_names-same (a ∷ ns) (b ∷ ms) h =
    ap (λ x. x ∷ ns) ((bytes_eq-Decides a b).0 (first-holds (bytes_eq a b) (same_names ns ms) h))
    ∙ ap (λ xs. b ∷ xs) (same_names-same ns ms (second-holds (bytes_eq a b) (same_names ns ms) h))

-- the texts of two names
pub text-test : (a b : List ℕ) → bytes_eq (compact_text (string a)) (compact_text (string b)) ≡ bytes_eq a b
text-test a b = alike (bytes_eq (quoted a) (quoted b)) (bytes_eq a b)
    (λ h. (bytes_eq-Decides a b).1 (quoted-same a b [] [] (ap (λ l. l ++ []) ((bytes_eq-Decides (quoted a) (quoted b)).0 h))).0)
    (λ h. (bytes_eq-Decides (quoted a) (quoted b)).1 (ap quoted ((bytes_eq-Decides a b).0 h)))

-- the texts of two lists of names
pub list-test : (ns ms : List (List ℕ)) → bytes_eq (compact_text (names_data ns)) (compact_text (names_data ms)) ≡ same_names ms ns
list-test ns ms =
    let decides = bytes_eq-Decides (compact_text (names_data ns)) (compact_text (names_data ms)) in
    alike (bytes_eq (compact_text (names_data ns)) (compact_text (names_data ms))) (same_names ms ns)
    (λ h. let same : ns ≡ ms = all-same ns ms (ap (drop 1) (decides.0 h)) in subst (λ xs. same_names ms xs ≡ true) (sym same) (same_names-refl ms))
    (λ h. decides.1 (ap (λ xs. compact_text (names_data xs)) (sym (same_names-same ms ns h))))
