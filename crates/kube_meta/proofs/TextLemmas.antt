-- The calls of the set of texts, over the bytes of its texts.
use Rattle.std.proofs.Common.{◌≡◌, ℕ, List, [], ◌∷◌, ◌++◌, ◌||◌, refl, ap, ap₂, ◌∙◌, string_bytes}
use Rattle.std.specs.Ordering.{nat_cmp, match_ordering}
use Rattle.std.specs.declared.cmp.Ordering.{Ordering}
use Rattle.std.specs.declared.cmp.Ordering.TheVariants.{Less, Equal, Greater}
use Rattle.std.specs.Cmp.Lexicographic.{slice_cmp}
use Rattle.std.specs.BTreeMap.{is_at}
use Rattle.std.specs.BTreeSet.{insert_key}
use Rattle.std.specs.String.{string_cmp}
use Rattle.std.specs.List.{AllZip, list_any}
use Rattle.std.specs.declared.string.String.{String}
use Rattle.std.proofs.lemmas.Map.Text.{is_eq-slice_cmp}
use Rattle.kube_meta.specs.Texts.{texts_of, is_among, with_text}

pub any-texts : {A : Type 0} (text : List ℕ) (ss : List (String A))
    → list_any (is_at (λ k. slice_cmp nat_cmp text (string_bytes k))) ss ≡ is_among text (texts_of ss)
any-texts text [] = refl
any-texts text (s ∷ ss) = ap₂ (λ a b. a || b) (is_eq-slice_cmp text (string_bytes s)) (any-texts text ss)

texts-match : {A : Type 0} (o : Ordering) (a b c : List (String A))
    → texts_of (match_ordering o a b c) ≡ match_ordering o (texts_of a) (texts_of b) (texts_of c)
texts-match Less a b c = refl
texts-match Equal a b c = refl
texts-match Greater a b c = refl

pub texts-insert_key : {A : Type 0} (ss : List (String A)) (s : String A)
    → texts_of (insert_key string_cmp ss s) ≡ with_text (string_bytes s) (texts_of ss)
texts-insert_key [] s = refl
texts-insert_key (t ∷ ts) s =
    texts-match (string_cmp s t) _ _ _
    ∙ ap (λ r. match_ordering (string_cmp s t) (string_bytes s ∷ string_bytes t ∷ texts_of ts) (string_bytes t ∷ texts_of ts) (string_bytes t ∷ r)) (texts-insert_key ts s)

pub texts-clone : {A : Type 0} (ss ts : List (String A))
    → AllZip (λ s t. string_bytes t ≡ string_bytes s) ss ts → texts_of ts ≡ texts_of ss
texts-clone [] [] h = refl
texts-clone [] (t ∷ ts) h = absurd h
texts-clone (s ∷ ss) [] h = absurd h
texts-clone (s ∷ ss) (t ∷ ts) h = λ i. h.0 i ∷ texts-clone ss ts h.1 i

pub texts-more : {A : Type 0} (ss : List (String A)) (s : String A) → texts_of (ss ++ s ∷ []) ≡ texts_of ss ++ string_bytes s ∷ []
texts-more [] s = refl
texts-more (t ∷ ts) s = ap (λ r. string_bytes t ∷ r) (texts-more ts s)
