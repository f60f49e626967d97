-- What an error policy answers.
use Rattle.std.specs.Prelude.{◌≡◌, ℕ, zero, suc, ◌-◌, nat_lt, if◌then◌else◌, List, [], ◌∷◌, Option, None}
use Rattle.std.specs.Fn.{FnReturns, Shared}
use Rattle.std.specs.Borrow.{Bor}
use Rattle.std.specs.Arc.{arc_value}
use Rattle.std.specs.declared.sync.Arc.{Arc}
use Rattle.std.specs.declared.alloc.Global.{Global}
use Rattle.kube_meta.specs.declared.action.Action.{Action}
use Rattle.kube_model.specs.History.{Finished, TurnRecord}

module _ {F K E Ctx : Type 0} (calls : Shared F (Arc K Global × (Bor E × (Arc Ctx Global × Unit {0}))) Action) (policy : F) where
  -- it was called at an object, a fault and a context of these values, and answered this
  pub record Answers (context : Ctx) (object : K) (fault : E) (action : Action) : Type 0 where
    pub shared : Arc K Global
    pub told : Bor E
    pub beside : Arc Ctx Global
    pub of_object : arc_value shared ≡ object
    pub of_fault : told.now ≡ fault
    pub of_context : arc_value beside ≡ context
    pub says : FnReturns calls policy (shared, (told, (beside, tt))) action

-- the actions that were taken for finishes, as answers of an error policy: of the k-th of them, whatever object was handed over
abbrev pub answered_in : {O : Type 0} → List Finished → ℕ → O → Option ℕ
answered_in [] k o = None
answered_in (g ∷ gs) zero o = g.action
answered_in (g ∷ gs) (suc k) o = answered_in gs k o

-- the same for those of each of these records
abbrev pub answered_by : {O : Type 0} → List (TurnRecord O) → ℕ → ℕ → O → Option ℕ
answered_by [] n k o = None
answered_by (r ∷ rs) zero k o = answered_in r.finished k o
answered_by (r ∷ rs) (suc n) k o = answered_by rs n k o

-- those of the first so many turns, then others
abbrev pub joined_policies : {O : Type 0} → (ℕ → ℕ → O → Option ℕ) → ℕ → (ℕ → ℕ → O → Option ℕ) → ℕ → ℕ → O → Option ℕ
joined_policies p count q n k o = if nat_lt n count then p n k o else q (n - count) k o
