-- What each kind of step tells its seat. `me` is its view and the slots that it holds, n the number found in the word.
use Rattle.std.specs.Prelude.{◌≡◌, ◌≢◌, ℕ, ◌≤◌, List, [], ◌∷◌, true, Option, Some, IfSome}
use Rattle.std.specs.List.{AllByRecursion}
use mathlib.Core.List.{IsPrefix}
use Rattle.atomic_table.specs.Table.{Me, Step}
use Rattle.kube_lock.specs.declared.view.View.{View}
use Rattle.kube_lock.specs.Views.{with_ticket, served, grown, released}
use Rattle.kube_lock.specs.Rule.{calls_of, AreOwn, IsKept}

module _ {C E P : Type 0} where
  -- it has the ticket that was found
  abbrev pub Drew : Step (Option C) → Me (Option C) (View E P) → ℕ → Me (Option C) (View E P) → Type 0
  Drew s me n after = after ≡ (with_ticket me.0 n, me.1)

  -- no ticket, no slot
  abbrev pub Released : Step (Option C) → Me (Option C) (View E P) → ℕ → Me (Option C) (View E P) → Type 0
  Released s me n after = after ≡ (released me.0, [])

-- what a history says of a view: it is legal, it begins with all that the view has seen or keeps, the view's own entries and those kept of a number are all of that number, and numbers beyond a count that it keeps have none
module _ {E P : Type 0} (number : E → ℕ) (Legal : P → List E → Type 0) where
  pub record IsTold (v : View E P) (log : List E) : Type 0 where
    pub legal : IfSome v.opening (λ o. Legal o log)
    pub seen : IsPrefix v.seen log
    pub fronts : AllByRecursion (λ front. IsPrefix front log) v.fronts
    pub own : AreOwn number v.number v.own log
    pub joined : AllByRecursion (IsKept number log) v.joined
    pub others : IfSome v.given (λ c. (n : ℕ) → c ≤ n → calls_of number n log ≡ [])

module _ {C E P : Type 0} (entries : C → List E) where
  -- it holds the slot, and has the value in hand, which tells the list that was seen
  pub record IsHolding (opened : C → P) (me : Me (Option C) (View E P)) : Type 0 where
    pub value : C
    pub hand : me.1 ≡ (0, Some value) ∷ []
    pub tells : entries value ≡ me.0.seen
    pub opens : IfSome me.0.opening (λ o. opened value ≡ o)
    pub holds : me.0.holds ≡ true

  -- the list of what lies in the held slot was seen, and what is new of it are its own entries
  abbrev pub Committed : Step (Option C) → Me (Option C) (View E P) → ℕ → Me (Option C) (View E P) → Type 0
  Committed s me n after = (after.1 ≡ me.1) × ((c : C) → me.1 ≡ (0, Some c) ∷ [] → after.0 ≡ grown me.0 (entries c))

module _ {C E P : Type 0} (entries : C → List E) (number : E → ℕ) (opened : C → P) (Legal : P → List E → Type 0) where
  -- where its ticket was found it holds the slot, and has seen the history; else nothing changed. Either way a history tells of what it knew
  abbrev pub Looked : Step (Option C) → Me (Option C) (View E P) → ℕ → Me (Option C) (View E P) → Type 0
  Looked s me n after =
      (me.0.ticket ≡ Some n → IsHolding entries opened after × (after.0 ≡ served me.0 after.0.seen) × IsTold number Legal me.0 after.0.seen)
      × (me.0.ticket ≢ Some n → (after ≡ me) × (log : List E) × IsTold number Legal me.0 log)
