-- On the numbers of the subscribers that are there.
use Rattle.std.proofs.Common.{◌≡◌, ℕ, zero, suc, ◌+◌, ◌<◌, ◌≤◌, ◌==◌, Bool, true, false, ◌||◌, not, nat_le, List, [], ◌∷◌, ◌++◌, length, set, map, Option, Some, None, refl, sym, ◌∙◌, ap, ap₂, arith, append_assoc, one-add, eq-eqb, ne_eqb}
use Rattle.std.specs.Prelude.{slice_get, is_some, min, ◌^◌, ◌-◌}
use Rattle.std.specs.List.{list_any, prefix_len, insert, remove}
use Rattle.std.specs.Option.{option_flatten}
use Rattle.std.proofs.lemmas.Bool.{leb-false}
use Rattle.std.proofs.lemmas.List.{length_push}
use Rattle.kube_reflect.specs.Subscribers.{free_number, placed}
use Rattle.kube_reflect.specs.Lags.{reaches, reaches_at, one_more, numbers_from, raised_to, raised_at, raised_all}

abbrev nobody : Option ℕ
nobody = None

false_true : {P : Type 0} → false ≡ true → P
false_true h = cc

or_first : (a b : Bool) → (a || b) ≡ false → a ≡ false
or_first true b h = h
or_first false b h = refl

or_second : (a b : Bool) → (a || b) ≡ false → b ≡ false
or_second true b h = false_true (sym h)
or_second false b h = h

-- what stands behind a part of a list
behind : {A : Type 0} (pre : List A) (x : A) (xs : List A) → slice_get (pre ++ x ∷ xs) (length pre) ≡ Some x
behind [] x xs = refl
behind (y ∷ pre) x xs = behind pre x xs

set-behind : {A : Type 0} (pre : List A) (x y : A) (xs : List A) → set (pre ++ x ∷ xs) (length pre) y ≡ (pre ++ y ∷ []) ++ xs
set-behind [] x y xs = refl
set-behind (z ∷ pre) x y xs = ap (λ zs. z ∷ zs) (set-behind pre x y xs)

-- one that is there has a place
pub has-place : (lags : List (Option ℕ)) (j : ℕ) → is_some (option_flatten (slice_get lags j)) ≡ true → j < length lags
has-place [] j h = false_true h
has-place (lag ∷ lags) zero h = omega arith
has-place (lag ∷ lags) (suc j) h = let p = has-place lags j h in omega (arith, p)

-- some one reaches where one at these numbers does
module _ (room : ℕ) (all : List (Option ℕ)) where
  reaches-from : (pre lags : List (Option ℕ)) (n : ℕ) → n ≡ length pre → pre ++ lags ≡ all → list_any (reaches_at room all) (numbers_from n lags) ≡ list_any (reaches room) lags
  reaches-from pre [] n e p = refl
  reaches-from pre (None ∷ lags) n e p =
      reaches-from (pre ++ None ∷ []) lags (suc n) (omega (arith, e, length_push pre nobody)) (append_assoc pre (None ∷ []) lags ∙ p)
  reaches-from pre (Some k ∷ lags) n e p =
      ap₂ (λ a b. a || b)
      (ap₂ (λ ls m. reaches room (option_flatten (slice_get ls m))) (sym p) e ∙ ap (λ o. reaches room (option_flatten o)) (behind pre (Some k) lags))
      (reaches-from (pre ++ Some k ∷ []) lags (suc n) (omega (arith, e, length_push pre (Some k))) (append_assoc pre (Some k ∷ []) lags ∙ p))

pub reaches-all : (room : ℕ) (lags : List (Option ℕ)) → list_any (reaches_at room lags) (numbers_from 0 lags) ≡ list_any (reaches room) lags
reaches-all room lags = reaches-from room lags [] lags 0 refl refl

-- raising those at these numbers raises each that is there
raised-from : (room : ℕ) (pre lags : List (Option ℕ)) (n : ℕ) → room < 2 ^ 32 → n ≡ length pre → list_any (reaches room) lags ≡ false
    → raised_all (numbers_from n lags) (pre ++ lags) ≡ pre ++ map one_more lags
raised-from room pre [] n r e f = refl
raised-from room pre (None ∷ lags) n r e f =
    ap (raised_all (numbers_from (suc n) lags)) (sym (append_assoc pre (None ∷ []) lags))
    ∙ (raised-from room (pre ++ None ∷ []) lags (suc n) r (omega (arith, e, length_push pre nobody)) f ∙ append_assoc pre (None ∷ []) (map one_more lags))
raised-from room pre (Some k ∷ lags) n r e f =
    let low = leb-false room k (or_first (nat_le room k) (list_any (reaches room) lags) f) in
    let one : min (k + 1) (2 ^ 64 - 1) ≡ k + 1 = omega (arith, low, r) in
    ap (raised_all (numbers_from (suc n) lags))
    (ap (λ m. raised_at m (pre ++ Some k ∷ lags)) e
    ∙ (ap (λ o. raised_to (length pre) (pre ++ Some k ∷ lags) (option_flatten o)) (behind pre (Some k) lags)
    ∙ (set-behind pre (Some k) (Some (min (k + 1) (2 ^ 64 - 1))) lags ∙ ap (λ m. (pre ++ Some m ∷ []) ++ lags) one)))
    ∙ (raised-from room (pre ++ Some (k + 1) ∷ []) lags (suc n) r (omega (arith, e, length_push pre (Some (k + 1)))) (or_second (nat_le room k) (list_any (reaches room) lags) f)
    ∙ append_assoc pre (Some (k + 1) ∷ []) (map one_more lags))

pub raised-each : (room : ℕ) (lags : List (Option ℕ)) → room < 2 ^ 32 → list_any (reaches room) lags ≡ false → raised_all (numbers_from 0 lags) lags ≡ map one_more lags
raised-each room lags r f = raised-from room [] lags 0 r refl f

-- the numbers stay where lags are written of those that are there
pub numbers-raised : (n : ℕ) (lags : List (Option ℕ)) → numbers_from n (map one_more lags) ≡ numbers_from n lags
numbers-raised n [] = refl
numbers-raised n (None ∷ lags) = numbers-raised (suc n) lags
numbers-raised n (Some k ∷ lags) = ap (λ ms. n ∷ ms) (numbers-raised (suc n) lags)

pub numbers-set : (n : ℕ) (lags : List (Option ℕ)) (j k : ℕ) → is_some (option_flatten (slice_get lags j)) ≡ true → numbers_from n (set lags j (Some k)) ≡ numbers_from n lags
numbers-set n [] j k h = refl
numbers-set n (None ∷ lags) zero k h = false_true h
numbers-set n (Some x ∷ lags) zero k h = refl
numbers-set n (None ∷ lags) (suc j) k h = numbers-set (suc n) lags j k h
numbers-set n (Some x ∷ lags) (suc j) k h = ap (λ ms. n ∷ ms) (numbers-set (suc n) lags j k h)

-- some one is there where there is a number
pub some-number : (n : ℕ) (lags : List (Option ℕ)) → not (length (numbers_from n lags) == 0) ≡ list_any is_some lags
some-number n [] = refl
some-number n (None ∷ lags) = some-number (suc n) lags
some-number n (Some k ∷ lags) = ap not (ne_eqb (suc (length (numbers_from (suc n) lags))) 0 (omega arith))

-- the first free number comes behind as many numbers
pub free-within : (n : ℕ) (lags : List (Option ℕ)) → free_number lags ≤ length (numbers_from n lags)
free-within n [] = omega arith
free-within n (None ∷ lags) = omega arith
free-within n (Some k ∷ lags) = let p = free-within (suc n) lags in omega (arith, p)

inserted-from : (n m : ℕ) (lags : List (Option ℕ)) (lag : ℕ) → m ≡ n + free_number lags → insert (numbers_from n lags) (free_number lags) m ≡ numbers_from n (placed lags lag)
inserted-from n m [] lag e = ap (λ k. k ∷ []) (omega (arith, e))
inserted-from n m (None ∷ lags) lag e = ap (λ k. k ∷ numbers_from (suc n) lags) (omega (arith, e))
inserted-from n m (Some x ∷ lags) lag e = rw one-add (ap (λ ms. n ∷ ms) (inserted-from (suc n) m lags lag (omega (arith, e))))

pub numbers-placed : (lags : List (Option ℕ)) (lag : ℕ) → insert (numbers_from 0 lags) (free_number lags) (free_number lags) ≡ numbers_from 0 (placed lags lag)
numbers-placed lags lag = inserted-from 0 (free_number lags) lags lag (omega arith)

-- the number of one that leaves
abbrev pub rank_of : ℕ → List ℕ → ℕ
rank_of number numbers = prefix_len (λ m. not (m == number)) numbers

-- one that leaves goes from the numbers
module _ (k : ℕ) where
  left-from : (n j : ℕ) (lags : List (Option ℕ)) → k ≡ n + j → is_some (option_flatten (slice_get lags j)) ≡ true
      → (rank_of k (numbers_from n lags) < length (numbers_from n lags)) × (remove (numbers_from n lags) (rank_of k (numbers_from n lags)) ≡ numbers_from n (set lags j None))
  left-from n j [] e h = false_true h
  left-from n zero (None ∷ lags) e h = false_true h
  left-from n zero (Some x ∷ lags) e h =
      let same : (n == k) ≡ true = eq-eqb n k (omega (arith, e)) in
      rw same (omega arith, refl)
  left-from n (suc j) (None ∷ lags) e h = left-from (suc n) j lags (omega (arith, e)) h
  left-from n (suc j) (Some x ∷ lags) e h =
      let other : (n == k) ≡ false = ne_eqb n k (omega (arith, e)) in
      let p = left-from (suc n) j lags (omega (arith, e)) h in
      rw other (rw one-add (omega (arith, p.0), ap (λ ms. n ∷ ms) p.1))

pub leaves : (lags : List (Option ℕ)) (j : ℕ) → is_some (option_flatten (slice_get lags j)) ≡ true
    → (rank_of j (numbers_from 0 lags) < length (numbers_from 0 lags)) × (remove (numbers_from 0 lags) (rank_of j (numbers_from 0 lags)) ≡ numbers_from 0 (set lags j None))
leaves lags j h = left-from j 0 j lags (omega arith) h
