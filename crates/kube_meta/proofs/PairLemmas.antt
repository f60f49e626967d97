-- The calls of the map of texts, over the bytes of its pairs.
use Rattle.std.proofs.Common.{◌≡◌, ℕ, suc, List, [], ◌∷◌, length, Some, refl, sym, ap, ap₂, ◌∙◌, cond, string_bytes, arith}
use Rattle.std.specs.Ordering.{nat_cmp, match_ordering}
use Rattle.std.specs.declared.cmp.Ordering.{Ordering}
use Rattle.std.specs.declared.cmp.Ordering.TheVariants.{Less, Equal, Greater}
use Rattle.std.specs.Cmp.Lexicographic.{slice_cmp}
use Rattle.std.specs.BTreeMap.{is_at, insert_entry}
use Rattle.std.specs.String.{string_cmp}
use Rattle.std.specs.Map.{lookup}
use Rattle.std.specs.List.{AllZip}
use Rattle.std.specs.declared.string.String.{String}
use Rattle.std.proofs.lemmas.Map.Text.{is_eq-slice_cmp}
use Rattle.kube_meta.specs.Pairs.{pairs_of, text_at, with_pair}

pub lookup-pairs : {A : Type 0} (key : List ℕ) (es : List (String A × List ℕ))
    → lookup (is_at (λ k. slice_cmp nat_cmp key (string_bytes k))) es ≡ text_at key (pairs_of es)
lookup-pairs key [] = refl
lookup-pairs key (e ∷ es) =
    ap₂ (λ b r. cond b (Some e.1) r) (is_eq-slice_cmp key (string_bytes e.0)) (lookup-pairs key es)

pairs-match : {A : Type 0} (o : Ordering) (a b c : List (String A × List ℕ))
    → pairs_of (match_ordering o a b c) ≡ match_ordering o (pairs_of a) (pairs_of b) (pairs_of c)
pairs-match Less a b c = refl
pairs-match Equal a b c = refl
pairs-match Greater a b c = refl

pub pairs-insert_entry : {A : Type 0} (es : List (String A × List ℕ)) (k : String A) (v : List ℕ)
    → pairs_of (insert_entry string_cmp es k v) ≡ with_pair (string_bytes k) v (pairs_of es)
pairs-insert_entry [] k v = refl
pairs-insert_entry (e ∷ es) k v =
    pairs-match (string_cmp k e.0) _ _ _
    ∙ ap (λ r. match_ordering (string_cmp k e.0) ((string_bytes k, v) ∷ (string_bytes e.0, e.1) ∷ pairs_of es) ((string_bytes e.0, v) ∷ pairs_of es) ((string_bytes e.0, e.1) ∷ r)) (pairs-insert_entry es k v)

pub pairs-clone : {A : Type 0} (es fs : List (String A × List ℕ))
    → AllZip (λ p q. (string_bytes q.0 ≡ string_bytes p.0) × (q.1 ≡ p.1)) es fs → pairs_of fs ≡ pairs_of es
pairs-clone [] [] h = refl
pairs-clone [] (f ∷ fs) h = absurd h
pairs-clone (e ∷ es) [] h = absurd h
pairs-clone (e ∷ es) (f ∷ fs) h = λ i. (h.0.0 i, h.0.1 i) ∷ pairs-clone es fs h.1 i

pub length-pairs : {A : Type 0} (es : List (String A × List ℕ)) → length (pairs_of es) ≡ length es
length-pairs [] = refl
length-pairs (e ∷ es) = ap suc (length-pairs es)

pub no_pairs : {A : Type 0} (es : List (String A × List ℕ)) → length es ≡ 0 → pairs_of es ≡ []
no_pairs [] h = refl
no_pairs (e ∷ es) h = absurd (omega arith)

pub no_entries : {A : Type 0} (es : List (String A × List ℕ)) → pairs_of es ≡ [] → length es ≡ 0
no_entries es h = sym (length-pairs es) ∙ ap length h
