-- What is told of a view that took in another is told of both.
use Rattle.std.proofs.Common.{◌≡◌, ◌≤◌, ℕ, List, [], ◌∷◌, ◌++◌, Bool, true, false, refl, sym, subst, arith}
use Rattle.std.specs.Prelude.{Option, Some, None, IfSome, nat_le, if◌then◌else◌}
use Rattle.std.proofs.lemmas.Bool.Decides.{nat_tests}
use Rattle.std.specs.List.{AllByRecursion}
use mathlib.Core.List.{IsPrefix}
use Rattle.atomic_table.specs.Seated.{TableId}
use Rattle.kube_lock.specs.declared.view.View.{View}
use Rattle.kube_lock.specs.Rule.{AreOwn, IsKept, calls_of}
use Rattle.kube_lock.specs.Steps.{IsTold}
use Rattle.kube_lock.specs.Views.{with_ticket, joined_in, kept_of, lesser}
use Rattle.kube_lock.specs.Passes.{Passing, passing}
use Rattle.kube_lock.specs.Whole.{IsWhole, BoundsNumbers, Covers}
use Rattle.kube_lock.proofs.Lists.{all_append, all_left, all_of, all_right}

-- no more than the first
least_first : (c d : ℕ) → (if nat_le c d then c else d) ≤ c
least_first c d = by_test (nat_le c d) refl
  where
    by_test : (b : Bool) → nat_le c d ≡ b → (if b then c else d) ≤ c
    by_test true is = omega arith
    by_test false is = grind (arith, nat_tests)

least_second : (c d : ℕ) → (if nat_le c d then c else d) ≤ d
least_second c d = by_test (nat_le c d) refl
  where
    by_test : (b : Bool) → nat_le c d ≡ b → (if b then c else d) ≤ d
    by_test true is = grind (arith, nat_tests)
    by_test false is = omega arith

under : (m c n : ℕ) → m ≤ c → c ≤ n → m ≤ n
under m c n le too = omega arith

-- what is said of all numbers from a count on
abbrev FromOn : (ℕ → Type 0) → ℕ → Type 0
FromOn F c = (n : ℕ) → c ≤ n → F n

from_first : (a b : Option ℕ) (F : ℕ → Type 0) → IfSome (lesser a b) (FromOn F) → IfSome a (FromOn F)
from_first None b F h = tt
from_first (Some c) None F h = h
from_first (Some c) (Some d) F h = λ n le. h n (under (if nat_le c d then c else d) c n (least_first c d) le)

from_second : (a b : Option ℕ) (F : ℕ → Type 0) → IfSome (lesser a b) (FromOn F) → IfSome b (FromOn F)
from_second None b F h = h
from_second (Some c) None F h = tt
from_second (Some c) (Some d) F h = λ n le. h n (under (if nat_le c d then c else d) d n (least_second c d) le)

module _ {E P : Type 0} (number : E → ℕ) (Legal : P → List E → Type 0) where
  pub told_before : (v : View E P) (t : ℕ) (log : List E) → IsTold number Legal (with_ticket v t) log → IsTold number Legal v log
  told_before v t log h = record { legal = h.legal; seen = h.seen; fronts = h.fronts; own = h.own; joined = h.joined; others = h.others }

  pub told_left : (v w : View E P) (log : List E) → IsTold number Legal (joined_in v w) log → IsTold number Legal v log
  told_left v w log h = record {
    legal = h.legal;
    seen = h.fronts.0;
    fronts = all_left (λ front. IsPrefix front log) v.fronts w.fronts h.fronts.1.1;
    own = h.own;
    joined = all_left (IsKept number log) v.joined (kept_of w.number w.own ++ w.joined) h.joined;
    others = from_first v.given w.given (λ n. calls_of number n log ≡ []) h.others;
  }

  kept_first : (o : Option ℕ) (own log : List E) (n : ℕ) → o ≡ Some n → AllByRecursion (IsKept number log) (kept_of o own) → calls_of number n log ≡ own
  kept_first None own log n has h = absurd cc
  kept_first (Some m) own log n has h = subst (λ (k : ℕ). calls_of number k log ≡ own) (let e : m ≡ n = cc has in e) h.0

  own_is : (o : Option ℕ) (own log : List E) (n : ℕ) → o ≡ Some n → AreOwn number o own log → calls_of number n log ≡ own
  own_is None own log n has h = absurd cc
  own_is (Some m) own log n has h = subst (λ (k : ℕ). calls_of number k log ≡ own) (let e : m ≡ n = cc has in e) h

  pub own_of : (v : View E P) (n : ℕ) (log : List E) → v.number ≡ Some n → IsTold number Legal v log → calls_of number n log ≡ v.own
  own_of v n log has h = own_is v.number v.own log n has h.own

  pub covers_itself : (v : View E P) (table : TableId) (n : ℕ) → v.number ≡ Some n → Covers number Legal v (passing table n v)
  covers_itself v table n has log h = (record { seen = h.seen; own = own_of v n log has h }, h.others)

  pub covers_left : (v w : View E P) (p : Passing E P) → Covers number Legal v p → Covers number Legal (joined_in v w) p
  covers_left v w p covers log h = covers log (told_left v w log h)

  pub covers_other : (v w : View E P) (table : TableId) (n : ℕ) → w.number ≡ Some n → Covers number Legal (joined_in v w) (passing table n w)
  covers_other v w table n has log h = (
    record {
      seen = h.fronts.1.0;
      own = kept_first w.number w.own log n has (all_left (IsKept number log) (kept_of w.number w.own) w.joined (all_right (IsKept number log) v.joined (kept_of w.number w.own ++ w.joined) h.joined));
    },
    from_second v.given w.given (λ n. calls_of number n log ≡ []) h.others,
  )

  -- what is told of a view that covers all passes but the last, and the last too
  pub whole_all : (v : View E P) (log : List E) (rest passes : List (Passing E P)) (last : Passing E P) → passes ≡ rest ++ last ∷ [] → IsTold number Legal v log
      → AllByRecursion (Covers number Legal v) rest → Covers number Legal v last → AllByRecursion (IsWhole number log) passes × AllByRecursion (BoundsNumbers number log) passes
  whole_all v log rest passes last is told covered last_covered =
      let all = subst (AllByRecursion (Covers number Legal v)) (sym is) (all_append (Covers number Legal v) rest (last ∷ []) covered (last_covered, tt)) in (
        all_of (Covers number Legal v) (IsWhole number log) (λ p h. (h log told).0) passes all,
        all_of (Covers number Legal v) (BoundsNumbers number log) (λ p h. (h log told).1) passes all,
      )
