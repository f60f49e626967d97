-- Two views that meet.
use Rattle.std.proofs.Common.{◌≡◌, ℕ, ◌≤◌, List, ◌++◌, length, Bool, true, false, refl, sym, ap, subst, ◌∙◌, arith}
use Rattle.std.specs.Prelude.{Option, Some, None, nat_le, if◌then◌else◌}
use Rattle.std.proofs.lemmas.Bool.Decides.{nat_tests}
use mathlib.Core.List.{IsPrefix}
use Rattle.atomic_table.specs.Seated.{TableId}
use Rattle.kube_lock.specs.declared.view.View.{View}
use Rattle.kube_lock.specs.Views.{longer, lesser}
use Rattle.kube_lock.specs.Passes.{Passing, passing}
use Rattle.kube_lock.proofs.Fronts.{prefix_self, prefix_shorter, prefix_whole}

module _ {E : Type 0} (one two log : List E) (p : IsPrefix one log) (q : IsPrefix two log) where
  abbrev both : Bool → List E
  both b = if b then two else one

  -- b says whether the first is no longer than the second
  begins_by : (b : Bool) → nat_le (length one) (length two) ≡ b → IsPrefix one (both b) × IsPrefix two (both b) × (longer one (both b) ≡ both b)
  begins_by true is =
      let le : length one ≤ length two = grind (arith, nat_tests) in
      let front = prefix_shorter one two log p q le in
      (front, prefix_self two, same (nat_le (length two) (length one)) refl front)
    where
      same : (c : Bool) → nat_le (length two) (length one) ≡ c → IsPrefix one two → (if c then one else two) ≡ two
      same false c_is front = refl
      same true c_is front = prefix_whole one two front (grind (arith, nat_tests))
  begins_by false is = (prefix_self one, prefix_shorter two one log q p (grind (arith, nat_tests)), same (nat_le (length one) (length one)))
    where
      same : (c : Bool) → (if c then one else one) ≡ one
      same true = refl
      same false = refl

  pub begins_both : IsPrefix one (longer two one) × IsPrefix two (longer two one) × (longer one (longer two one) ≡ longer two one)
  begins_both = begins_by (nat_le (length one) (length two)) refl

pub lesser_none : (o : Option ℕ) → lesser o None ≡ o
lesser_none None = refl
lesser_none (Some n) = refl

-- a pass whose seat has seen more
pub pass_is : {E P : Type 0} (table before : TableId) (n : ℕ) (v u : View E P) (p : Passing E P) (seen : List E) → passing before n u ≡ p → table ≡ p.table → v.opening ≡ u.opening → v.given ≡ u.given → v.seen ≡ seen → v.own ≡ u.own → passing table n v ≡ record p { seen = seen }
pass_is table before n v u p seen is here opens given saw own = λ i. record {
  table = here i;
  opening = (opens ∙ ap (λ q. q.opening) is) i;
  number = ap (λ q. q.number) is i;
  given = (given ∙ ap (λ q. q.given) is) i;
  seen = saw i;
  own = (own ∙ ap (λ q. q.own) is) i;
}

-- a beginning of a list that passes a test passes it, where the test is kept by fronts
pub front_passes : {E : Type 0} (Legal : List E → Type 0) → ((front rest : List E) → Legal (front ++ rest) → Legal front) → (front log : List E) → IsPrefix front log → Legal log → Legal front
front_passes Legal fronts front log p legal = fronts front p.0 (subst Legal (sym p.1) legal)
