-- The exchange that sets the outcome keeps the rule.
use Rattle.std.proofs.Common.{◌≡◌, ◌≤◌, ℕ, ◌<◌, ◌==◌, Bool, true, false, List, [], ◌∷◌, ◌++◌, length, refl, ap, sym, subst, arith, inl, None}
use Rattle.std.proofs.lemmas.List.{append-nil}
use Rattle.std.proofs.lemmas.Bool.Decides.{nat_tests}
use prog.Atomic.{either}
use Rattle.logbook.specs.Pages.{Cell, cell, keeps, no_nib, step, Moves, Goes}
use Rattle.kube_reflect.specs.Once.{IsOnce, IsSet}

module _ {E : Type 0} where
  abbrev pub shown : List E → List E
  shown log = []

  abbrev pub moved : List E → List E → ℕ → Type 0
  moved xs ys n = Unit {0}

  pub sets_goes : (log : List E) (e : E) → length log ≤ 1 → (b : Bool) → (length log == 0) ≡ b
      → Goes IsOnce shown moved 0 ([], (no_nib, None)) (λ n. either (n == 0) 1 n) (IsSet (step 0 0 1 e) ([], (no_nib, None))) ((length log, true) ∷ (0, true) ∷ []) log
  sets_goes [] e once b is = (keeps, e ∷ [], None, tt, record { words = refl; once = omega arith }, inl (refl, refl), refl)
  sets_goes (x ∷ log) e once true is = absurd (grind (arith, nat_tests))
  sets_goes (x ∷ log) e once false is =
      let all : (x ∷ log) ++ [] ≡ x ∷ log = append-nil (x ∷ log) in
      let n : either (length (x ∷ log) == 0) 1 (length (x ∷ log)) ≡ length ((x ∷ log) ++ []) = rw is (ap length (sym all)) in (
        keeps,
        [],
        None,
        tt,
        record { words = ap (λ (k : ℕ). (k, true) ∷ (0, true) ∷ []) n; once = subst (λ (l : List E). length l ≤ 1) (sym all) once },
        inl (refl, refl),
        rw is tt,
      )

  -- whatever the book is, the exchange sets the outcome where none was set
  pub sets_moves : (e : E) → Moves IsOnce shown moved 0 ([], (no_nib, None)) (λ n. either (n == 0) 1 n) (IsSet (step 0 0 1 e) ([], (no_nib, None)))
  sets_moves e cs log kept pre away =
      let P : List Cell → Type 0 = λ c. (0 < length c) × ((cell c 0).1 ≡ true) × Goes IsOnce shown moved 0 ([], (no_nib, None)) (λ n. either (n == 0) 1 n) (IsSet (step 0 0 1 e) ([], (no_nib, None))) c log in
      subst P (sym kept.words) (omega arith, refl, sets_goes log e kept.once (length log == 0) refl)
