-- A JSON Pointer, cut at its slashes and read escape by escape.
use Rattle.std.proofs.Common.{◌≡◌, ◌≢◌, ℕ, suc, ◌<◌, ◌==◌, List, [], ◌∷◌, ◌++◌, length, get_or, map, None, false, true≢false, refl, sym, ap, ◌∙◌, append_assoc, arith, ne_eqb}
use Rattle.serde_json.specs.Find.{unescape}
use Rattle.kube_api.specs.Patches.{cut, onto_first, parts_of}

abbrev pub Lacks : ℕ → List ℕ → Type 0
Lacks c xs = (i : ℕ) → i < length xs → get_or xs i 0 ≢ c

pub cut_before : (xs ys : List ℕ) → Lacks 47 xs → cut (xs ++ 47 ∷ ys) ≡ xs ∷ cut ys
cut_before [] ys h = refl
cut_before (x ∷ xs) ys h = rw (ne_eqb x 47 (h 0 (omega arith))) (ap (onto_first x) (cut_before xs ys (λ i less. h (suc i) (omega arith))))

pub cut_whole : (xs : List ℕ) → Lacks 47 xs → cut xs ≡ xs ∷ []
cut_whole [] h = refl
cut_whole (x ∷ xs) h = rw (ne_eqb x 47 (h 0 (omega arith))) (ap (onto_first x) (cut_whole xs (λ i less. h (suc i) (omega arith))))

pub plain_before : (xs ys : List ℕ) → Lacks 126 xs → unescape (xs ++ 126 ∷ ys) ≡ xs ++ unescape (126 ∷ ys)
unfolding unescape
plain_before [] ys h = refl
plain_before (x ∷ []) ys h = rw (ne_eqb x 126 (h 0 (omega arith))) refl
plain_before (x ∷ y ∷ xs) ys h = rw (ne_eqb x 126 (h 0 (omega arith))) (ap (λ l. x ∷ l) (plain_before (y ∷ xs) ys (λ i less. h (suc i) (omega arith))))

pub plain_whole : (xs : List ℕ) → Lacks 126 xs → unescape xs ≡ xs
unfolding unescape
plain_whole [] h = refl
plain_whole (x ∷ []) h = refl
plain_whole (x ∷ y ∷ xs) h = rw (ne_eqb x 126 (h 0 (omega arith))) (ap (λ l. x ∷ l) (plain_whole (y ∷ xs) (λ i less. h (suc i) (omega arith))))

pub tilde : (after more : List ℕ) → after ≡ 48 ∷ more → unescape (126 ∷ after) ≡ (126 ∷ []) ++ unescape more
unfolding unescape
tilde after more e = rw e refl

pub slash : (after more : List ℕ) → after ≡ 49 ∷ more → unescape (126 ∷ after) ≡ (47 ∷ []) ++ unescape more
unfolding unescape
slash after more e = rw e refl

pub no_escape : (after : List ℕ) → ((rest : List ℕ) → after ≢ 48 ∷ rest) → ((rest : List ℕ) → after ≢ 49 ∷ rest) → unescape (126 ∷ after) ≡ (126 ∷ []) ++ unescape after
unfolding unescape
no_escape [] h k = refl
no_escape (c ∷ cs) h k =
    rw (ne_eqb c 48 (λ e. h cs (ap (λ x. x ∷ cs) e)), ne_eqb c 49 (λ e. k cs (ap (λ x. x ∷ cs) e))) refl

-- one escape was read, with what stands before it
pub escape_read : (rest before after meant more name first second : List ℕ) → rest ≡ before ++ 126 ∷ after → Lacks 126 before → unescape (126 ∷ after) ≡ meant ++ unescape more → first ≡ name ++ before → second ≡ first ++ meant
    → second ++ unescape more ≡ name ++ unescape rest
escape_read rest before after meant more name first second e h m f s =
    ap (λ x. x ++ unescape more) (s ∙ ap (λ x. x ++ meant) f) ∙ append_assoc (name ++ before) meant (unescape more) ∙ ap (λ u. (name ++ before) ++ u) (sym m) ∙ append_assoc name before (unescape (126 ∷ after))
    ∙ ap (λ u. name ++ u) (sym (plain_before before after h) ∙ ap unescape (sym e))

-- one part was read
pub part_read : (parts new : List (List ℕ)) (rest part more name : List ℕ) → rest ≡ part ++ 47 ∷ more → Lacks 47 part → name ≡ unescape part → new ≡ parts ++ name ∷ []
    → new ++ map unescape (cut more) ≡ parts ++ map unescape (cut rest)
part_read parts new rest part more name e h t n =
    ap (λ ps. ps ++ map unescape (cut more)) (n ∙ ap (λ x. parts ++ x ∷ []) t) ∙ append_assoc parts (unescape part ∷ []) (map unescape (cut more))
    ∙ ap (λ ps. parts ++ map unescape ps) (sym (cut_before part more h) ∙ ap cut (sym e))

pub last_read : (parts new : List (List ℕ)) (rest name : List ℕ) → Lacks 47 rest → name ≡ unescape rest → new ≡ parts ++ name ∷ [] → new ≡ parts ++ map unescape (cut rest)
last_read parts new rest name h t n = n ∙ ap (λ x. parts ++ x ∷ []) t ∙ ap (λ ps. parts ++ map unescape ps) (sym (cut_whole rest h))

pub no_slash : (path : List ℕ) → false ≡ (length path == 0) → ((rest : List ℕ) → path ≢ 47 ∷ rest) → parts_of path ≡ None
no_slash [] some h = absurd (true≢false (sym some))
no_slash (c ∷ cs) some h = rw (ne_eqb c 47 (λ e. h cs (ap (λ x. x ∷ cs) e))) refl
