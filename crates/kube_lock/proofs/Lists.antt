-- Lists that are read at a place, lists of which something holds of each element, and remainders.
use Rattle.std.proofs.Common.{◌≡◌, ◌≢◌, ◌⊎◌, ⊎_elim, inl, inr, ℕ, zero, suc, ◌+◌, ◌%◌, ◌^◌, ◌<◌, ◌≤◌, List, [], ◌∷◌, ◌++◌, length, set, Bool, true, false, refl, sym, ap, subst, ◌∙◌, arith}
use Rattle.std.specs.Prelude.{Option, Some, None, IfSome, IsSome, ◌||◌, ◌==◌}
use Rattle.std.specs.List.{AllByRecursion, IsDistinct, list_any}
use Rattle.std.proofs.Math.Nat.{mod-add-mod}
use Rattle.std.proofs.lemmas.Bool.Decides.{nat_tests}
use Rattle.std.proofs.lemmas.Cmp.{nat_eq_equiv}
use Rattle.std.proofs.lemmas.Map.Keys.{IsDistinct-push, IsDistinct-from_apart}
use Rattle.std.proofs.lemmas.Map.Steps.{length-le_from_distinct_below}
use mathlib.Core.Option.{some, some-injective, some-ne-none}
use mathlib.Core.Logic.{dite}
use native.Mathlib.Decide.{ℕ_discrete}
use lib.ListN.{get_elem?}
use Rattle.atomic_table.proofs.Lists.{one_turn}
use Rattle.kube_lock.specs.Rule.{same}

pub all_of : {X : Type 0} (P Q : X → Type 0) → ((x : X) → P x → Q x) → (xs : List X) → AllByRecursion P xs → AllByRecursion Q xs
all_of P Q f [] h = tt
all_of P Q f (x ∷ xs) h = (f x h.0, all_of P Q f xs h.1)

pub all_append : {X : Type 0} (P : X → Type 0) (xs ys : List X) → AllByRecursion P xs → AllByRecursion P ys → AllByRecursion P (xs ++ ys)
all_append P [] ys h k = k
all_append P (x ∷ xs) ys h k = (h.0, all_append P xs ys h.1 k)

pub all_left : {X : Type 0} (F : X → Type 0) (xs ys : List X) → AllByRecursion F (xs ++ ys) → AllByRecursion F xs
all_left F [] ys h = tt
all_left F (x ∷ xs) ys h = (h.0, all_left F xs ys h.1)

pub all_right : {X : Type 0} (F : X → Type 0) (xs ys : List X) → AllByRecursion F (xs ++ ys) → AllByRecursion F ys
all_right F [] ys h = h
all_right F (x ∷ xs) ys h = all_right F xs ys h.1

pub if_some : {X : Type 0} (P : X → Type 0) (o : Option X) (x : X) → IfSome o P → o ≡ Some x → P x
if_some P None x h e = absurd cc
if_some P (Some y) x h e = subst P (let s : y ≡ x = cc e in s) h

pub some_of : {X : Type 0} (P Q : X → Type 0) → ((x : X) → P x → Q x) → (o : Option X) → IfSome o P → IfSome o Q
some_of P Q f None h = tt
some_of P Q f (Some x) h = f x h

module _ {A : Type 0} where
  pub at_snoc_place : (l : List A) (a b : A) (j : ℕ) → get_elem? (l ++ a ∷ []) j ≡ some b → (get_elem? l j ≡ some b) ⊎ ((j ≡ length l) × (a ≡ b))
  at_snoc_place [] a b zero e = inr (refl, some-injective a b e)
  at_snoc_place [] a b (suc j) e = absurd (some-ne-none b (sym e))
  at_snoc_place (x ∷ xs) a b zero e = inl e
  at_snoc_place (x ∷ xs) a b (suc j) e = ⊎_elim (λ t. inl t) (λ t. inr (ap suc t.0, t.1)) (at_snoc_place xs a b j e)

  pub set_at : (l : List A) (i : ℕ) (a b : A) → get_elem? l i ≡ some a → get_elem? (set l i b) i ≡ some b
  set_at [] i a b e = absurd (some-ne-none a (sym e))
  set_at (x ∷ xs) zero a b e = refl
  set_at (x ∷ xs) (suc i) a b e = set_at xs i a b e

  pub at_below : (l : List A) (i : ℕ) (a : A) → get_elem? l i ≡ some a → i < length l
  at_below [] i a e = absurd (some-ne-none a (sym e))
  at_below (x ∷ xs) zero a e = omega arith
  at_below (x ∷ xs) (suc i) a e = let b = at_below xs i a e in omega arith

  pub one_at : (l : List A) (i : ℕ) (a b : A) → get_elem? l i ≡ some a → get_elem? l i ≡ some b → a ≡ b
  one_at l i a b e f = some-injective a b (sym e ∙ f)

  pub head_at : (l : List A) (a : A) → get_elem? l 0 ≡ some a → (rest : List A) × (l ≡ a ∷ rest)
  head_at [] a e = absurd (some-ne-none a (sym e))
  head_at (x ∷ xs) a e = (xs, ap (λ y. y ∷ xs) (some-injective x a e))

pub none_at : (n : ℕ) (queue : List ℕ) → ((k : ℕ) → get_elem? queue k ≡ some n → ⊥) → list_any (same n) queue ≡ false
none_at n [] h = refl
none_at n (x ∷ xs) h =
    let apart : same n x ≡ false = (let ne : x ≢ n = (λ e. h 0 (ap some e)) in grind (arith, nat_tests)) in
    rw apart (none_at n xs (λ k e. h (suc k) e))

pub found_at : (q : ℕ) (queue : List ℕ) → list_any (same q) queue ≡ true → (k : ℕ) × (get_elem? queue k ≡ some q)
found_at q [] h = absurd cc
found_at q (x ∷ xs) h = by_first (same q x) refl (λ later. found_at q xs later)
  where
    by_first : (b : Bool) → same q x ≡ b → (list_any (same q) xs ≡ true → (k : ℕ) × (get_elem? xs k ≡ some q)) → (k : ℕ) × (get_elem? (x ∷ xs) k ≡ some q)
    by_first true is more = (0, ap some (let e : q ≡ x = grind (arith, nat_tests) in sym e))
    by_first false is more = let r = more (subst (λ (b : Bool). (b || list_any (same q) xs) ≡ true) is h) in (suc r.0, r.1)

-- one number more, which is not there
pub distinct_snoc : (queue : List ℕ) (n : ℕ) → IsDistinct same queue → ((k : ℕ) → get_elem? queue k ≡ some n → ⊥) → IsDistinct same (queue ++ n ∷ [])
distinct_snoc queue n d h = IsDistinct-push nat_eq_equiv queue n d (none_at n queue h)

-- different numbers below a bound are at most as many
pub few_below : (queue : List ℕ) (n : ℕ) → IsDistinct same queue → ((k q : ℕ) → get_elem? queue k ≡ some q → q < n) → length queue ≤ n
few_below queue n d h = length-le_from_distinct_below queue n d (λ q found. let at = found_at q queue found in h at.0 q at.1)

-- numbers less than a turn apart
pub same_turn : (a k : ℕ) → a < 2 ^ 64 → k < 2 ^ 64 → a ≡ (a + k) % 2 ^ 64 → k ≡ 0
same_turn a k small few e =
    let whole : a % 2 ^ 64 ≡ a = omega arith in
    let one = one_turn a (a + k) (2 ^ 64) (omega arith) (omega arith) (whole ∙ e) in omega arith

pub next_turn : (a k : ℕ) → ((a + k) % 2 ^ 64 + 1) % 2 ^ 64 ≡ (a + (k + 1)) % 2 ^ 64
next_turn a k = mod-add-mod (a + k) (2 ^ 64) 1 ∙ ap (λ n. n % 2 ^ 64) (let e : a + k + 1 ≡ a + (k + 1) = omega arith in e)

pub after_turn : (a k : ℕ) → ((a + 1) % 2 ^ 64 + k) % 2 ^ 64 ≡ (a + suc k) % 2 ^ 64
after_turn a k = mod-add-mod (a + 1) (2 ^ 64) k ∙ ap (λ n. n % 2 ^ 64) (let e : a + 1 + k ≡ a + suc k = omega arith in e)

-- the first where the test passes, else the second
abbrev pub pick : Bool → ℕ → ℕ → ℕ
pick true a b = a
pick false a b = b

pub picks_first : (i j a b : ℕ) → i ≡ j → pick (i == j) a b ≡ a
picks_first i j a b e = let t : (i == j) ≡ true = grind (arith, nat_tests) in ap (λ (q : Bool). pick q a b) t

pub picks_second : (i j a b : ℕ) → i ≢ j → pick (i == j) a b ≡ b
picks_second i j a b ne = let t : (i == j) ≡ false = grind (arith, nat_tests) in ap (λ (q : Bool). pick q a b) t

pub at_place : {F : Type 0} (i j : ℕ) → (i ≡ j → F) → (i ≢ j → F) → F
at_place i j f g = dite (ℕ_discrete i j) f g

pub by_ticket : {F : Type 0} (o : Option ℕ) (n : ℕ) → (o ≡ Some n → F) → (o ≢ Some n → F) → F
by_ticket None n f g = g (λ e. absurd cc)
by_ticket (Some t) n f g = at_place t n (λ e. f (ap Some e)) (λ ne. g (λ e. ne (cc e)))

pub once_none : IsDistinct same []
once_none = IsDistinct-from_apart same [] (λ i j d lt below. absurd (omega arith))

pub the_some : {X : Type 0} (o : Option X) → IsSome o → (x : X) × (o ≡ Some x)
the_some None h = absurd cc
the_some (Some x) h = (x, refl)
