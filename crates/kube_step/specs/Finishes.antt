-- What was done with the finishes of a turn, with their faults and actions. K is the type of objects, D that of their dynamic types, E that of faults.
use Rattle.std.specs.Prelude.{◌≡◌, List, map, length, take, Option, Some, None, Result, Ok, Err}
use Rattle.std.specs.List.{AllZip}
use Rattle.kube_meta.specs.Reference.{ObjectType}
use Rattle.kube_meta.specs.Keys.{reference_of}
use Rattle.kube_meta.specs.declared.action.Action.{Action}
use Rattle.kube_model.specs.History.{Finished as PlainFinished}
use Rattle.kube_model.specs.Takes.{Running}
use Rattle.kube_model.specs.Traces.{handed_over}
use Rattle.kube_turn.specs.declared.turn.Finish.{Finish}
use Rattle.kube_turn.specs.declared.record.Finished.{Finished}
use Rattle.kube_turn.specs.Records.{finished_of}

-- policy says what the error policy answered of an object and a fault
module _ {K E : Type 0} (policy : K → E → Action → Type 0) where
  -- for a fault it is what the error policy answered of the object that was handed over; where none was, none was asked
  abbrev pub IsPolicyFor : Option K → E → Action → Type 0
  IsPolicyFor None fault action = Unit {0}
  IsPolicyFor (Some object) fault action = policy object fault action

  -- an outcome's own action is the one taken
  abbrev pub IsActionFor : Option K → Result Action E → Action → Type 0
  IsActionFor object (Ok own) action = action ≡ own
  IsActionFor object (Err fault) action = IsPolicyFor object fault action

module _ {K D E : Type 0} (type_of : D → ObjectType) (policy : K → E → Action → Type 0) where
  pub record IsFinished (running : List (Running K)) (f : Finish K E D) (g : Finished K E D) : Type 0 where
    pub reference : g.reference ≡ f.reference
    pub outcome : g.outcome ≡ f.outcome
    pub action : IsActionFor policy (handed_over running (reference_of type_of f.reference)) f.outcome g.action

  -- the finishes of a record, in the order of the turn's; running are those that ran before it
  abbrev pub AreFinished : List (Running K) → List (Finish K E D) → List (Finished K E D) → Type 0
  AreFinished running fs gs = AllZip (IsFinished running) fs gs

  -- the same without what the faults say
  abbrev pub AreFinishedSo : List (Running K) → List (Finish K E D) → List PlainFinished → Type 0
  AreFinishedSo running fs plain = (gs : List (Finished K E D)) × AreFinished running fs gs × (plain ≡ map (finished_of type_of) gs)

  -- these are the first of them, as many as they are
  abbrev pub AreFinishedFirst : List (Running K) → List (Finish K E D) → List PlainFinished → Type 0
  AreFinishedFirst running fs plain = AreFinishedSo running (take (length plain) fs) plain
