-- On reading stored items, which are seen as references with objects.
use Rattle.std.proofs.Common.{◌≡◌, ℕ, ◌+◌, ◌<◌, ◌≤◌, append-nil, Bool, true, false, cond, List, [], ◌∷◌, ◌++◌, length, get_or, take, drop, map, Option, Some, None, if◌then◌else◌, refl, sym, ◌∙◌, ap, subst, inl, inr, append_assoc}
use Rattle.std.specs.List.{find, filter}
use Rattle.std.specs.Option.{option_map, option_or}
use Rattle.std.proofs.lemmas.List.{drop_more, drop_all, take_more, map-append}
use Rattle.std.proofs.lemmas.List.Elements.{filter-append}
use Rattle.kube_meta.specs.Reference.{Reference, same_reference, without_namespace}
use Rattle.kube_model.specs.Store.{stored_under}
use Rattle.kube_reflect.specs.Reads.{object_at, IsFirst, IsFiltered}

module _ {S O : Type 0} (seen : S → Reference × O) where
  find_head : (b : Bool) (s : S) (o : Option S) (p : Option (Reference × O)) → option_map (λ t. (seen t).1) o ≡ option_map (λ p. p.1) p
      → option_map (λ t. (seen t).1) (cond b (Some s) o) ≡ option_map (λ p. p.1) (cond b (Some (seen s)) p)
  find_head true s o p h = refl
  find_head false s o p h = h

  find-seen : (ss : List S) (r : Reference) → option_map (λ t. (seen t).1) (find (λ s. same_reference (seen s).0 r) ss) ≡ option_map (λ p. p.1) (stored_under (λ p. p.0) (map seen ss) r)
  find-seen [] r = refl
  find-seen (s ∷ ss) r = find_head (same_reference (seen s).0 r) s (find (λ s. same_reference (seen s).0 r) ss) _ (find-seen ss r)

  or-map : (a b : Option (Reference × O)) → option_map (λ p. p.1) (option_or a b) ≡ option_or (option_map (λ p. p.1) a) (option_map (λ p. p.1) b)
  or-map None b = refl
  or-map (Some a) b = refl

  -- it is found as it is given
  pub found_first : (ss : List S) (r : Reference) (o : Option O) (k : O) → o ≡ Some k
      → o ≡ option_map (λ t. (seen t).1) (find (λ s. same_reference (seen s).0 r) ss) → Some k ≡ object_at (map seen ss) r
  found_first ss r o k e f =
      sym (or-map (stored_under (λ p. p.0) (map seen ss) r) (stored_under (λ p. p.0) (map seen ss) (without_namespace r))
      ∙ ap (λ p. option_or p (option_map (λ p. p.1) (stored_under (λ p. p.0) (map seen ss) (without_namespace r)))) (sym (find-seen ss r) ∙ (sym f ∙ e)))

  -- it is looked for without its namespace
  pub found_second : (ss : List S) (r : Reference) (o p : Option O) → o ≡ None
      → o ≡ option_map (λ t. (seen t).1) (find (λ s. same_reference (seen s).0 r) ss)
      → p ≡ option_map (λ t. (seen t).1) (find (λ s. same_reference (seen s).0 (without_namespace r)) ss) → p ≡ object_at (map seen ss) r
  found_second ss r o p e f g =
      g
      ∙ (find-seen ss (without_namespace r)
      ∙ sym (or-map (stored_under (λ p. p.0) (map seen ss) r) (stored_under (λ p. p.0) (map seen ss) (without_namespace r))
      ∙ ap (λ p. option_or p (option_map (λ p. p.1) (stored_under (λ p. p.0) (map seen ss) (without_namespace r)))) (sym (find-seen ss r) ∙ (sym f ∙ e))))

-- the item at a place, and those after it
at_place : {S : Type 0} (xs : List S) (i : ℕ) (x : S) → i < length xs → x ≡ get_or xs i x → drop i xs ≡ x ∷ drop (i + 1) xs
at_place xs i x h e = drop_more xs i x h ∙ ap (λ y. y ∷ drop (i + 1) xs) (sym e)

module _ {S O : Type 0} (passes : O → Bool → Type 0) (see : S → O) where
  pub first_here : (xs : List S) (i : ℕ) (x : S) → i < length xs → x ≡ get_or xs i x → passes (see x) true
      → IsFirst passes (map see (drop i xs)) (Some (see x))
  first_here xs i x h e p =
      subst (λ ys. IsFirst passes (map see ys) (Some (see x))) (sym (at_place xs i x h e)) (inl (p, refl))

  pub first_later : (xs : List S) (i : ℕ) (x : S) (first : Option O) → i < length xs → x ≡ get_or xs i x → passes (see x) false
      → IsFirst passes (map see (drop (i + 1) xs)) first → IsFirst passes (map see (drop i xs)) first
  first_later xs i x first h e p r =
      subst (λ ys. IsFirst passes (map see ys) first) (sym (at_place xs i x h e)) (inr (p, r))

  pub filtered_here : (xs : List S) (i : ℕ) (x : S) (zs : List O) → i < length xs → x ≡ get_or xs i x → passes (see x) true
      → IsFiltered passes (map see (drop (i + 1) xs)) zs → IsFiltered passes (map see (drop i xs)) (see x ∷ zs)
  filtered_here xs i x zs h e p r =
      subst (λ ys. IsFiltered passes (map see ys) (see x ∷ zs)) (sym (at_place xs i x h e)) (inl (zs, p, refl, r))

  pub filtered_later : (xs : List S) (i : ℕ) (x : S) (zs : List O) → i < length xs → x ≡ get_or xs i x → passes (see x) false
      → IsFiltered passes (map see (drop (i + 1) xs)) zs → IsFiltered passes (map see (drop i xs)) zs
  filtered_later xs i x zs h e p r =
      subst (λ ys. IsFiltered passes (map see ys) zs) (sym (at_place xs i x h e)) (inr (p, r))

-- one more that passes a test, or doesn't
module _ {S O : Type 0} (test : O → Bool) (see : S → O) where
  more : (xs : List S) (i : ℕ) (x : S) → i < length xs → x ≡ get_or xs i x → filter test (map see (take (i + 1) xs)) ≡ filter test (map see (take i xs)) ++ filter test (see x ∷ [])
  more xs i x h e =
      ap (λ ys. filter test (map see ys)) (take_more xs i x h ∙ ap (λ y. take i xs ++ y ∷ []) (sym e))
      ∙ (ap (filter test) (map-append see (take i xs) (x ∷ [])) ∙ filter-append test (map see (take i xs)) (see x ∷ []))

  pub more_true : (xs : List S) (i : ℕ) (x : S) → i < length xs → x ≡ get_or xs i x → test (see x) ≡ true
      → filter test (map see (take (i + 1) xs)) ≡ filter test (map see (take i xs)) ++ see x ∷ []
  more_true xs i x h e t = more xs i x h e ∙ ap (λ b. filter test (map see (take i xs)) ++ (if b then see x ∷ [] else [])) t

  pub more_false : (xs : List S) (i : ℕ) (x : S) → i < length xs → x ≡ get_or xs i x → test (see x) ≡ false
      → filter test (map see (take (i + 1) xs)) ≡ filter test (map see (take i xs)) ++ []
  more_false xs i x h e t = more xs i x h e ∙ ap (λ b. filter test (map see (take i xs)) ++ (if b then see x ∷ [] else [])) t

-- the objects and the references of stored items
module _ {S O : Type 0} (seen : S → Reference × O) where
  pub objects-seen : (ss : List S) → map (λ s. (seen s).1) ss ≡ map (λ p. p.1) (map seen ss)
  objects-seen [] = refl
  objects-seen (s ∷ ss) = ap (λ os. (seen s).1 ∷ os) (objects-seen ss)

  pub references-seen : (ss : List S) → map (λ s. (seen s).0) ss ≡ map (λ p. p.0) (map seen ss)
  references-seen [] = refl
  references-seen (s ∷ ss) = ap (λ rs. (seen s).0 ∷ rs) (references-seen ss)

-- what passed so far, and one more or none
module _ {S O : Type 0} (passes : O → Bool → Type 0) (see : S → O) where
  pub filtered_more : (xs : List S) (i : ℕ) (x : S) (had has : List O) → i < length xs → x ≡ get_or xs i x → passes (see x) true → has ≡ had ++ see x ∷ []
      → ((zs : List O) → IsFiltered passes (map see (drop i xs)) zs → IsFiltered passes (map see xs) (had ++ zs))
      → (zs : List O) → IsFiltered passes (map see (drop (i + 1) xs)) zs → IsFiltered passes (map see xs) (has ++ zs)
  filtered_more xs i x had has h e p k rest zs r =
      subst (λ ys. IsFiltered passes (map see xs) ys) (sym (ap (λ ys. ys ++ zs) k ∙ append_assoc had (see x ∷ []) zs))
      (rest (see x ∷ zs) (filtered_here passes see xs i x zs h e p r))

  pub filtered_same : (xs : List S) (i : ℕ) (x : S) (had has : List O) → i < length xs → x ≡ get_or xs i x → passes (see x) false → has ≡ had
      → ((zs : List O) → IsFiltered passes (map see (drop i xs)) zs → IsFiltered passes (map see xs) (had ++ zs))
      → (zs : List O) → IsFiltered passes (map see (drop (i + 1) xs)) zs → IsFiltered passes (map see xs) (has ++ zs)
  filtered_same xs i x had has h e p k rest zs r =
      subst (λ ys. IsFiltered passes (map see xs) (ys ++ zs)) (sym k) (rest zs (filtered_later passes see xs i x zs h e p r))

  pub filtered_all : (xs : List S) (i : ℕ) (has : List O) → length xs ≤ i
      → ((zs : List O) → IsFiltered passes (map see (drop i xs)) zs → IsFiltered passes (map see xs) (has ++ zs)) → IsFiltered passes (map see xs) has
  filtered_all xs i has h rest =
      subst (λ ys. IsFiltered passes (map see xs) ys) (append-nil has)
      (rest [] (subst (λ ys. IsFiltered passes (map see ys) []) (sym (drop_all i xs h)) refl))

  pub first_none : (xs : List S) (i : ℕ) → length xs ≤ i
      → ((first : Option O) → IsFirst passes (map see (drop i xs)) first → IsFirst passes (map see xs) first) → IsFirst passes (map see xs) None
  first_none xs i h rest = rest None (subst (λ ys. IsFirst passes (map see ys) None) (sym (drop_all i xs h)) refl)
