-- What a search of an index says of stored items. Items are seen as references with objects.
use Rattle.std.proofs.Common.{◌≡◌, ◌≢◌, ℕ, zero, suc, ◌<◌, List, [], ◌∷◌, ◌++◌, length, get_or, map, take, Some, Result, Ok, Err, refl, sym, ◌∙◌, ap, subst, arith}
use Rattle.std.specs.Prelude.{slice_get}
use Rattle.std.specs.List.{insert, remove}
use Rattle.std.proofs.lemmas.List.{map-append}
use Rattle.kube_meta.specs.Reference.{Reference}
use Rattle.kube_reflect.specs.Indexes.{reference_cmp, no_reference, references, closed_up, IsIndex, IsSearched}
use Rattle.kube_reflect.proofs.Indexing.{distinct, absent, indexed_more, indexed_less}
use Rattle.kube_reflect.proofs.Indexed.{at, NoneBefore, NoOther, length-references, references-removed}
use Rattle.kube_reflect.proofs.Ordering.{reference_total}

-- the item at a place
pub item_there : {X : Type 0} (xs : List X) (p : ℕ) → p < length xs → (x : X) × (x ≡ get_or xs p x) × (slice_get xs p ≡ Some x)
item_there [] p h = absurd (omega arith)
item_there (y ∷ ys) zero h = (y, refl, refl)
item_there (y ∷ ys) (suc p) h = item_there ys p (omega arith)

pub references-append : {O : Type 0} (ps qs : List (Reference × O)) → references (ps ++ qs) ≡ references ps ++ references qs
references-append ps qs = map-append (λ p. p.0) ps qs

-- what is read of a list that is written before others
pub take_own : (ys zs : List ℕ) (n : ℕ) → n ≡ length ys → take n (ys ++ zs) ≡ ys
take_own [] zs zero e = refl
take_own [] zs (suc n) e = absurd (omega arith)
take_own (y ∷ ys) zs zero e = absurd (omega arith)
take_own (y ∷ ys) zs (suc n) e = ap (λ qs. y ∷ qs) (take_own ys zs n (omega arith))

-- the same search of the same lists
pub carried : {S O : Type 0} (seen : S → Reference × O) (xs ys : List S) (ps qs : List ℕ) (r : Reference) (a : Result ℕ ℕ) → xs ≡ ys → ps ≡ qs
    → IsSearched (references (map seen xs)) ps r a → IsSearched (references (map seen ys)) qs r a
carried seen xs ys ps qs r a e f h =
    subst (λ zs. IsSearched (references (map seen zs)) qs r a) e (subst (λ zs. IsSearched (references (map seen xs)) zs r a) f h)

module _ {S O : Type 0} (seen : S → Reference × O) (xs : List S) (places : List ℕ) (index : IsIndex (references (map seen xs)) places) (r : Reference) where
  keys_count : length (references (map seen xs)) ≡ length xs
  keys_count = length-references seen xs

  module _ (k : ℕ) (found : IsSearched (references (map seen xs)) places r (Ok k)) where
    pub position_in : k < length places
    position_in = let a = found.0 in let l = index.len in omega arith

    pub place_in : get_or places k 0 < length xs
    place_in = let w = index.within k found.0 in omega (arith, keys_count)

    pub is_there : at seen xs (get_or places k 0) ≡ r
    is_there = found.1

    pub alone : NoOther seen xs (get_or places k 0) r
    alone q h n e =
        n (distinct reference_cmp reference_total no_reference (references (map seen xs)) places index q (get_or places k 0)
        (omega (arith, keys_count)) (index.within k found.0) (e ∙ sym found.1))

    pub none_before : NoneBefore seen xs (get_or places k 0) r
    none_before q h = alone q (let p = place_in in omega arith) (λ e. omega arith)

    pub indexed_removed : IsIndex (references (map seen (remove xs (get_or places k 0)))) (map (closed_up (get_or places k 0)) (remove places k))
    indexed_removed =
        subst (λ keys. IsIndex keys (map (closed_up (get_or places k 0)) (remove places k))) (sym (references-removed seen xs (get_or places k 0)))
        (indexed_less reference_cmp reference_total no_reference (references (map seen xs)) places index k (get_or places k 0) found.0 refl)

  module _ (k : ℕ) (found : IsSearched (references (map seen xs)) places r (Err k)) where
    pub nowhere : (q : ℕ) → q < length xs → at seen xs q ≢ r
    nowhere q h = absent reference_cmp reference_total no_reference (references (map seen xs)) places index r k found q (omega (arith, keys_count))

    pub indexed_pushed : (o : O) (n : ℕ) → n ≡ length xs → IsIndex (references (map seen xs ++ (r, o) ∷ [])) (insert places k n)
    indexed_pushed o n e =
        let count : length (references (map seen xs)) ≡ n = omega (arith, keys_count) in
        subst (λ keys. IsIndex keys (insert places k n)) (sym (references-append (map seen xs) ((r, o) ∷ [])))
        (subst (λ m. IsIndex (references (map seen xs) ++ r ∷ []) (insert places k m)) count
        (indexed_more reference_cmp reference_total no_reference (references (map seen xs)) places index r k found))
