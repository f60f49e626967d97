-- Why runs of a controller end early. K is the type of objects, D that of their dynamic types, E that of a run's faults.
use Rattle.std.specs.Prelude.{ℕ, List}
use Rattle.kube_model.specs.Traces.{Refusal}
use Rattle.kube_asks.specs.declared.asks.AskFault.{AskFault}
use Rattle.kube_asks.specs.declared.asks.AskFault.TheVariants as faults
use Rattle.kube_turn.specs.declared.record.TurnRecord.{TurnRecord}
use Rattle.kube_step.specs.Errors.{refusal_of}
use Rattle.kube_control.specs.declared.stopped.Stopped.{Stopped}
use Rattle.kube_control.specs.declared.stopped.Stopped.TheVariants as stopped
use Rattle.kube_control.specs.declared.error.RunError.{RunError}
use Rattle.kube_control.specs.declared.error.RunError.TheVariants.{NoMemory, UnnamedObject, BadTurn as Refused, Spent}

-- P, where memory was wanting
abbrev pub IfNoMemoryAsk : AskFault → Type 0 → Type 0
IfNoMemoryAsk faults.NoMemory P = P
IfNoMemoryAsk (faults.Unnamed source) P = Unit {0}
IfNoMemoryAsk faults.Spent P = Unit {0}

-- P of the refusal, where a turn is refused
abbrev pub IfRefusedTurn : Stopped → (Refusal → Type 0) → Type 0
IfRefusedTurn (stopped.Refused why) P = P (refusal_of why)
IfRefusedTurn (stopped.Faulted fault) P = Unit {0}

-- P of the fault, where one ends a turn
abbrev pub IfFaulted : Stopped → (AskFault → Type 0) → Type 0
IfFaulted (stopped.Faulted fault) P = P fault
IfFaulted (stopped.Refused why) P = Unit {0}

module _ {K E D : Type 0} where
  -- the records of the turns before an error
  abbrev pub records_before : RunError K E D → List (TurnRecord K E D)
  records_before (NoMemory trace) = trace.records
  records_before (UnnamedObject turn source trace) = trace.records
  records_before (Refused turn why trace) = trace.records
  records_before (Spent trace) = trace.records

  -- P, where memory was wanting
  abbrev pub IfNoMemory : RunError K E D → Type 0 → Type 0
  IfNoMemory (NoMemory trace) P = P
  IfNoMemory (UnnamedObject turn source trace) P = Unit {0}
  IfNoMemory (Refused turn why trace) P = Unit {0}
  IfNoMemory (Spent trace) P = Unit {0}

  -- P of the turn's number and the source, where an item of the source has no name
  abbrev pub IfUnnamed : RunError K E D → (ℕ → ℕ → Type 0) → Type 0
  IfUnnamed (UnnamedObject turn source trace) P = P turn source
  IfUnnamed (NoMemory trace) P = Unit {0}
  IfUnnamed (Refused turn why trace) P = Unit {0}
  IfUnnamed (Spent trace) P = Unit {0}

  -- P of the turn's number and why it is refused
  abbrev pub IfRefused : RunError K E D → (ℕ → Refusal → Type 0) → Type 0
  IfRefused (Refused turn why trace) P = P turn (refusal_of why)
  IfRefused (NoMemory trace) P = Unit {0}
  IfRefused (UnnamedObject turn source trace) P = Unit {0}
  IfRefused (Spent trace) P = Unit {0}

  -- P, where the controller was spent before
  abbrev pub IfSpent : RunError K E D → Type 0 → Type 0
  IfSpent (Spent trace) P = P
  IfSpent (NoMemory trace) P = Unit {0}
  IfSpent (UnnamedObject turn source trace) P = Unit {0}
  IfSpent (Refused turn why trace) P = Unit {0}

  abbrev pub IsSpent : RunError K E D → Type 0
  IsSpent (Spent trace) = Unit {0}
  IsSpent (NoMemory trace) = ⊥
  IsSpent (UnnamedObject turn source trace) = ⊥
  IsSpent (Refused turn why trace) = ⊥

  -- P, where the run failed for good
  abbrev pub IfFatal : RunError K E D → Type 0 → Type 0
  IfFatal (NoMemory trace) P = P
  IfFatal (UnnamedObject turn source trace) P = P
  IfFatal (Refused turn why trace) P = Unit {0}
  IfFatal (Spent trace) P = Unit {0}
