-- Rows by the numbers of their entries.
use Rattle.std.proofs.Common.{◌≡◌, ℕ, zero, suc, Bool, true, false, cond, List, [], ◌∷◌, ◌++◌, map, Option, Some, None, option_map, if◌then◌else◌, refl, sym, ap, subst, ◌∙◌}
use Rattle.std.specs.Prelude.{nat_eq, slice_get, IsPermutation}
use Rattle.std.specs.List.{AllByRecursion, IsDistinct}
use Rattle.std.specs.Cmp.{IsEquivalence, nat_eq_equiv}
use Rattle.std.specs.Map.{keys_of, lookup, lookup_key}
use Rattle.std.proofs.lemmas.Bool.{eqb-true}
use Rattle.std.proofs.lemmas.Map.Entries.{lookup_from_place}
use Rattle.std.proofs.lemmas.Map.Keys.{IsDistinct-head, IsDistinct-tail, IsDistinct-IsPermutation}
use Rattle.std.proofs.lemmas.Option.{slice_get-map}
use Rattle.std.proofs.lemmas.List.Sorted.{IsPermutation-map}
use Rattle.indexmap.specs.IndexMap.{set_value_at}
use Rattle.indexmap.proofs.MapLemmas.{lookup_permutation}
use Rattle.kube_sched.specs.declared.table.Entry.{Entry}
use Rattle.kube_sched.specs.Tables.{Row, number_of, at}

pub some-is : {A : Type 0} {a b : A} → Some a ≡ Some b → a ≡ b
some-is h = cc

pub none-is-some : {A : Type 0} {a : A} → None ≡ Some a → ⊥
none-is-some h = cc

module _ {M : Type 0} where
  -- rows under their numbers
  abbrev by_number : List (Row M) → List (ℕ × Row M)
  by_number rows = map (λ r. (number_of r, r)) rows

  at-lookup : (rows : List (Row M)) (n : ℕ) → at rows n ≡ lookup (nat_eq n) (by_number rows)
  at-lookup [] n = refl
  at-lookup (r ∷ rows) n = ap (λ o. cond (nat_eq n r.1.number) (Some r) o) (at-lookup rows n)

  keys-by_number : (rows : List (Row M)) → map number_of rows ≡ keys_of (by_number rows)
  keys-by_number [] = refl
  keys-by_number (r ∷ rows) = ap (λ ns. r.1.number ∷ ns) (keys-by_number rows)

  -- the row at a place
  pub at-place : (rows : List (Row M)) (i : ℕ) (r : Row M) → IsDistinct nat_eq (map number_of rows) → slice_get rows i ≡ Some r → at rows r.1.number ≡ Some r
  at-place rows i r d h =
      at-lookup rows r.1.number
      ∙ lookup_from_place nat_eq_equiv (by_number rows) i r.1.number r (subst (IsDistinct nat_eq) (keys-by_number rows) d)
      (slice_get-map (λ (r : Row M). (number_of r, r)) rows i ∙ ap (option_map (λ (r : Row M). (number_of r, r))) h)

  pub record Placed (rows : List (Row M)) (n : ℕ) (r : Row M) : Type 0 where
    pub place : ℕ
    pub there : slice_get rows place ≡ Some r
    pub numbered : n ≡ r.1.number

  pub place-at : (rows : List (Row M)) (n : ℕ) (r : Row M) → at rows n ≡ Some r → Placed rows n r
  place-at [] n r h = absurd (none-is-some h)
  place-at (x ∷ rows) n r h = go (nat_eq n x.1.number) refl h (place-at rows n r)
    where
      go : (b : Bool) → nat_eq n x.1.number ≡ b → cond b (Some x) (at rows n) ≡ Some r → (at rows n ≡ Some r → Placed rows n r) → Placed (x ∷ rows) n r
      go true e h f = record { place = 0; there = h; numbered = eqb-true n x.1.number e ∙ ap (λ (r : Row M). r.1.number) (some-is h) }
      go false e h f = let p = f h in record { place = suc p.place; there = p.there; numbered = p.numbered }

  pub at-none : (rows : List (Row M)) (n : ℕ) → AllByRecursion (λ k. nat_eq n k ≡ false) (map number_of rows) → at rows n ≡ None
  at-none [] n h = refl
  at-none (r ∷ rows) n h = ap (λ b. cond b (Some r) (at rows n)) h.0 ∙ at-none rows n h.1

  at-head : (r : Row M) (rows : List (Row M)) (n : ℕ) (b : Bool) → nat_eq n r.1.number ≡ b → at (r ∷ rows) n ≡ cond b (Some r) (at rows n)
  at-head r rows n b e = ap (λ b. cond b (Some r) (at rows n)) e

  -- without a row
  pub removed : (rows rest : List (Row M)) (r : Row M) → IsPermutation rows (r ∷ rest) → IsDistinct nat_eq (map number_of rows) → (n : ℕ) → at rest n ≡ (if nat_eq n r.1.number then None else at rows n)
  removed rows rest r moves d n = go (nat_eq n r.1.number) refl
    where
      others : IsDistinct nat_eq (map number_of (r ∷ rest))
      others = IsDistinct-IsPermutation nat_eq nat_eq_equiv.symm (map number_of rows) (map number_of (r ∷ rest)) (IsPermutation-map number_of rows (r ∷ rest) moves) d

      same : at (r ∷ rest) n ≡ at rows n
      same =
          at-lookup (r ∷ rest) n
          ∙ lookup_permutation nat_eq_equiv (by_number rows) (by_number (r ∷ rest)) (IsPermutation-map (λ (r : Row M). (number_of r, r)) rows (r ∷ rest) moves)
          (subst (IsDistinct nat_eq) (keys-by_number (r ∷ rest)) others) (nat_eq n) (nat_eq_equiv.congr n)
          ∙ sym (at-lookup rows n)

      go : (b : Bool) → nat_eq n r.1.number ≡ b → at rest n ≡ (if b then None else at rows n)
      go true e =
          at-none rest n
          (subst (λ k. AllByRecursion (λ j. nat_eq k j ≡ false) (map number_of rest)) (sym (eqb-true n r.1.number e)) (IsDistinct-head nat_eq r.1.number (map number_of rest) others))
      go false e = sym (at-head r rest n false e) ∙ same

  -- with one more
  pub added : (rows : List (Row M)) (r : Row M) → at rows r.1.number ≡ None → (n : ℕ) → at (rows ++ r ∷ []) n ≡ (if nat_eq n r.1.number then Some r else at rows n)
  added rows r none n = appended rows ∙ go (nat_eq n r.1.number) refl
    where
      behind : Option (Row M) → Option (Row M)
      behind None = cond (nat_eq n r.1.number) (Some r) None
      behind (Some x) = Some x

      appended : (xs : List (Row M)) → at (xs ++ r ∷ []) n ≡ behind (at xs n)
      appended [] = refl
      appended (x ∷ xs) = at' (nat_eq n x.1.number) (appended xs)
        where
          at' : (b : Bool) → at (xs ++ r ∷ []) n ≡ behind (at xs n) → cond b (Some x) (at (xs ++ r ∷ []) n) ≡ behind (cond b (Some x) (at xs n))
          at' true h = refl
          at' false h = h

      go : (b : Bool) → nat_eq n r.1.number ≡ b → behind (at rows n) ≡ (if b then Some r else at rows n)
      go true e = ap behind (ap (at rows) (eqb-true n r.1.number e) ∙ none) ∙ ap (λ b. cond b (Some r) None) e
      go false e = kept (at rows n)
        where
          kept : (o : Option (Row M)) → behind o ≡ o
          kept None = ap (λ b. cond b (Some r) None) e
          kept (Some x) = refl

  -- with an entry written
  pub changed : (rows : List (Row M)) (i : ℕ) (r : Row M) (w : Entry) → IsDistinct nat_eq (map number_of rows) → slice_get rows i ≡ Some r → w.number ≡ r.1.number → (n : ℕ)
      → at (set_value_at rows i w) n ≡ (if nat_eq n r.1.number then Some (r.0, w) else at rows n)
  changed [] zero r w d h e n = absurd (none-is-some h)
  changed [] (suc i) r w d h e n = absurd (none-is-some h)
  changed (x ∷ rows) zero r w d h e n = go (nat_eq n r.1.number) refl
    where
      same : x ≡ r
      same = some-is h

      go : (b : Bool) → nat_eq n r.1.number ≡ b → cond (nat_eq n w.number) (Some (x.0, w)) (at rows n) ≡ (if b then Some (r.0, w) else cond (nat_eq n x.1.number) (Some x) (at rows n))
      go true f = ap (λ b. cond b (Some (x.0, w)) (at rows n)) (ap (nat_eq n) e ∙ f) ∙ ap (λ (y : Row M). Some (y.0, w)) same
      go false f =
          ap (λ b. cond b (Some (x.0, w)) (at rows n)) (ap (nat_eq n) e ∙ f)
          ∙ sym (ap (λ b. cond b (Some x) (at rows n)) (ap (λ (y : Row M). nat_eq n y.1.number) same ∙ f))
  changed (x ∷ rows) (suc i) r w d h e n = go (nat_eq n x.1.number) refl (changed rows i r w (IsDistinct-tail nat_eq x.1.number (map number_of rows) d) h e n)
    where
      other : nat_eq x.1.number r.1.number ≡ false
      other = apart rows i h (IsDistinct-head nat_eq x.1.number (map number_of rows) d)
        where
          apart : (ys : List (Row M)) (j : ℕ) → slice_get ys j ≡ Some r → AllByRecursion (λ k. nat_eq x.1.number k ≡ false) (map number_of ys) → nat_eq x.1.number r.1.number ≡ false
          apart [] j h a = absurd (none-is-some h)
          apart (y ∷ ys) zero h a = ap (λ (z : Row M). nat_eq x.1.number z.1.number) (sym (some-is h)) ∙ a.0
          apart (y ∷ ys) (suc j) h a = apart ys j h a.1

      go : (b : Bool) → nat_eq n x.1.number ≡ b → at (set_value_at rows i w) n ≡ (if nat_eq n r.1.number then Some (r.0, w) else at rows n)
          → cond b (Some x) (at (set_value_at rows i w) n) ≡ (if nat_eq n r.1.number then Some (r.0, w) else cond b (Some x) (at rows n))
      go true f k = sym (ap (λ b. if b then Some (r.0, w) else Some x) (ap (λ j. nat_eq j r.1.number) (eqb-true n x.1.number f) ∙ other))
      go false f k = k

  -- Rows by their messages.
  module _ (same : M → M → Bool) (equiv : IsEquivalence same) where
    pub found-key : (m k : M) (rows : List (Row M)) → lookup_key (same m) rows ≡ Some k → same m k ≡ true
    found-key m k [] h = absurd (none-is-some h)
    found-key m k (x ∷ rows) h = go (same m x.0) refl h (found-key m k rows)
      where
        go : (b : Bool) → same m x.0 ≡ b → cond b (Some x.0) (lookup_key (same m) rows) ≡ Some k → (lookup_key (same m) rows ≡ Some k → same m k ≡ true) → same m k ≡ true
        go true e h f = ap (same m) (sym (some-is h)) ∙ e
        go false e h f = f h

    lookup-same : (t u : M → Bool) → ((m : M) → t m ≡ u m) → (rows : List (Row M)) → lookup t rows ≡ lookup u rows
    lookup-same t u h [] = refl
    lookup-same t u h (x ∷ rows) = ap (λ b. cond b (Some x.1) (lookup t rows)) (h x.0) ∙ ap (λ o. cond (u x.0) (Some x.1) o) (lookup-same t u h rows)

    pub lookup-at : (rows : List (Row M)) (n : ℕ) (r : Row M) (m : M) → IsDistinct same (keys_of rows) → at rows n ≡ Some r → same m r.0 ≡ true → lookup (same m) rows ≡ Some r.1
    lookup-at rows n r m u h e =
        let p = place-at rows n r h in
        lookup-same (same m) (same r.0) (λ k. equiv.congr m r.0 k e) rows ∙ lookup_from_place equiv rows p.place r.0 r.1 u p.there

    -- no two rows are of the same message
    pub alike : (rows : List (Row M)) (n k : ℕ) (r s : Row M) → IsDistinct same (keys_of rows) → at rows n ≡ Some r → at rows k ≡ Some s → same s.0 r.0 ≡ true → n ≡ k
    alike rows n k r s u h i e =
        let one = lookup-at rows n r s.0 u h e in
        let two = lookup-at rows k s s.0 u i (equiv.refl s.0) in
        let entry : r.1 ≡ s.1 = some-is (sym one ∙ two) in
        (place-at rows n r h).numbered ∙ ap (λ (x : Entry). x.number) entry ∙ sym (place-at rows k s i).numbered

    -- a message that has no row
    pub absent : (rows : List (Row M)) (m : M) (n : ℕ) (r : Row M) → IsDistinct same (keys_of rows) → lookup (same m) rows ≡ None → at rows n ≡ Some r → same r.0 m ≡ false
    absent rows m n r u none h = equiv.symm r.0 m ∙ go (same m r.0) refl
      where
        go : (b : Bool) → same m r.0 ≡ b → b ≡ false
        go true e = absurd (none-is-some (sym none ∙ lookup-at rows n r m u h e))
        go false e = refl
