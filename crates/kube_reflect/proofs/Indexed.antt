-- What is found at the first place of a reference among stored items, what is put there and what is dropped. Items are seen as references with objects.
use Rattle.std.proofs.Common.{◌≡◌, ◌≢◌, ℕ, zero, suc, ◌<◌, Bool, true, false, not, cond, List, [], ◌∷◌, ◌++◌, length, get_or, set, map, Some, None, refl, sym, ◌∙◌, ap, arith}
use Rattle.std.specs.List.{find, filter, remove}
use Rattle.kube_meta.specs.Reference.{Reference, same_reference}
use Rattle.kube_meta.specs.ReferenceLaws.{same_reference_equiv}
use Rattle.kube_reflect.specs.Cached.{put_under}
use Rattle.kube_reflect.specs.Indexes.{no_reference, references}
use Rattle.kube_reflect.proofs.Putting.{same-references}

-- two references are equal by their test where they are the same
pub same_by : (a b : Reference) → a ≡ b → same_reference a b ≡ true
same_by a b e = ap (λ r. same_reference a r) (sym e) ∙ same_reference_equiv.refl a

pub other_by : (a b : Reference) → a ≢ b → same_reference a b ≡ false
other_by a b n = by (same_reference a b) refl
  where
    by : (c : Bool) → same_reference a b ≡ c → same_reference a b ≡ false
    by true e = absurd (n (same-references a b e))
    by false e = e

module _ {S O : Type 0} (seen : S → Reference × O) where
  -- the reference at a place
  abbrev pub at : List S → ℕ → Reference
  at xs q = get_or (references (map seen xs)) q no_reference

  -- none before p is r
  abbrev pub NoneBefore : List S → ℕ → Reference → Type 0
  NoneBefore xs p r = (q : ℕ) → q < p → at xs q ≢ r

  abbrev pub NoOther : List S → ℕ → Reference → Type 0
  NoOther xs p r = (q : ℕ) → q < length xs → (q ≡ p → ⊥) → at xs q ≢ r

  pub find_at : (xs : List S) (p : ℕ) (x : S) (r : Reference) → p < length xs → x ≡ get_or xs p x → (seen x).0 ≡ r → NoneBefore xs p r
      → find (λ s. same_reference (seen s).0 r) xs ≡ Some x
  find_at [] p x r h e is none = absurd (omega arith)
  find_at (y ∷ ys) zero x r h e is none =
      ap (λ b. cond b (Some y) (find (λ s. same_reference (seen s).0 r) ys)) (same_by (seen y).0 r (ap (λ z. (seen z).0) (sym e) ∙ is)) ∙ ap Some (sym e)
  find_at (y ∷ ys) (suc p) x r h e is none =
      ap (λ b. cond b (Some y) (find (λ s. same_reference (seen s).0 r) ys)) (other_by (seen y).0 r (none 0 (omega arith)))
      ∙ find_at ys p x r (omega arith) e is (λ q l. none (suc q) (omega arith))

  pub find_none : (xs : List S) (r : Reference) → ((q : ℕ) → q < length xs → at xs q ≢ r) → find (λ s. same_reference (seen s).0 r) xs ≡ None
  find_none [] r none = refl
  find_none (y ∷ ys) r none =
      ap (λ b. cond b (Some y) (find (λ s. same_reference (seen s).0 r) ys)) (other_by (seen y).0 r (none 0 (omega arith)))
      ∙ find_none ys r (λ q l. none (suc q) (omega arith))

  -- what is put in the place of the item there
  pub put_at : (xs : List S) (p : ℕ) (s : S) (pair : Reference × O) → p < length xs → seen s ≡ pair → at xs p ≡ pair.0 → NoneBefore xs p pair.0
      → map seen (set xs p s) ≡ put_under (map seen xs) pair
  put_at [] p s pair h e is none = absurd (omega arith)
  put_at (y ∷ ys) zero s pair h e is none =
      ap (λ q. q ∷ map seen ys) e
      ∙ sym (ap (λ b. cond b (pair ∷ map seen ys) (seen y ∷ put_under (map seen ys) pair)) (same_by (seen y).0 pair.0 is))
  put_at (y ∷ ys) (suc p) s pair h e is none =
      ap (λ qs. seen y ∷ qs) (put_at ys p s pair (omega arith) e is (λ q l. none (suc q) (omega arith)))
      ∙ sym (ap (λ b. cond b (pair ∷ map seen ys) (seen y ∷ put_under (map seen ys) pair)) (other_by (seen y).0 pair.0 (none 0 (omega arith))))

  -- what is put last
  pub put_last : (ps : List (Reference × O)) (pair : Reference × O) → ((q : ℕ) → q < length (references ps) → get_or (references ps) q no_reference ≢ pair.0)
      → ps ++ pair ∷ [] ≡ put_under ps pair
  put_last [] pair none = refl
  put_last (p ∷ ps) pair none =
      ap (λ qs. p ∷ qs) (put_last ps pair (λ q l. none (suc q) (omega arith)))
      ∙ sym (ap (λ b. cond b (pair ∷ ps) (p ∷ put_under ps pair)) (other_by p.0 pair.0 (none 0 (omega arith))))

  -- a write of an item with the same reference changes no reference
  pub references-written : (xs : List S) (p : ℕ) (s : S) → p < length xs → (seen s).0 ≡ at xs p → references (map seen (set xs p s)) ≡ references (map seen xs)
  references-written [] p s h e = absurd (omega arith)
  references-written (y ∷ ys) zero s h e = ap (λ r. r ∷ references (map seen ys)) e
  references-written (y ∷ ys) (suc p) s h e = ap (λ rs. (seen y).0 ∷ rs) (references-written ys p s (omega arith) e)

  -- what is left where no item has the reference, and where one has
  pub drop_none : (xs : List S) (r : Reference) → ((q : ℕ) → q < length xs → at xs q ≢ r) → xs ≡ filter (λ s. not (same_reference (seen s).0 r)) xs
  drop_none [] r none = refl
  drop_none (y ∷ ys) r none =
      ap (λ zs. y ∷ zs) (drop_none ys r (λ q l. none (suc q) (omega arith)))
      ∙ sym (ap (λ b. cond (not b) (y ∷ filter (λ s. not (same_reference (seen s).0 r)) ys) (filter (λ s. not (same_reference (seen s).0 r)) ys)) (other_by (seen y).0 r (none 0 (omega arith))))

  pub drop_at : (xs : List S) (p : ℕ) (r : Reference) → p < length xs → at xs p ≡ r → NoOther xs p r → remove xs p ≡ filter (λ s. not (same_reference (seen s).0 r)) xs
  drop_at [] p r h is none = absurd (omega arith)
  drop_at (y ∷ ys) zero r h is none =
      drop_none ys r (λ q l. none (suc q) (omega arith) (λ e. omega arith))
      ∙ sym (ap (λ b. cond (not b) (y ∷ filter (λ s. not (same_reference (seen s).0 r)) ys) (filter (λ s. not (same_reference (seen s).0 r)) ys)) (same_by (seen y).0 r is))
  drop_at (y ∷ ys) (suc p) r h is none =
      ap (λ zs. y ∷ zs) (drop_at ys p r (omega arith) is (λ q l n. none (suc q) (omega arith) (λ e. n (omega arith))))
      ∙ sym (ap (λ b. cond (not b) (y ∷ filter (λ s. not (same_reference (seen s).0 r)) ys) (filter (λ s. not (same_reference (seen s).0 r)) ys)) (other_by (seen y).0 r (none 0 (omega arith) (λ e. omega arith))))

  pub references-removed : (xs : List S) (p : ℕ) → references (map seen (remove xs p)) ≡ remove (references (map seen xs)) p
  references-removed [] zero = refl
  references-removed [] (suc p) = refl
  references-removed (y ∷ ys) zero = refl
  references-removed (y ∷ ys) (suc p) = ap (λ rs. (seen y).0 ∷ rs) (references-removed ys p)

  pub length-references : (xs : List S) → length (references (map seen xs)) ≡ length xs
  length-references [] = refl
  length-references (y ∷ ys) = let e = length-references ys in omega arith

  pub at-item : (xs : List S) (p : ℕ) (x : S) → p < length xs → x ≡ get_or xs p x → at xs p ≡ (seen x).0
  at-item [] p x h e = absurd (omega arith)
  at-item (y ∷ ys) zero x h e = ap (λ z. (seen z).0) (sym e)
  at-item (y ∷ ys) (suc p) x h e = at-item ys p x (omega arith) e
