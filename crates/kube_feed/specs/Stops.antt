-- What ends a turn early.
use Rattle.kube_model.specs.Traces.{Refusal}
use Rattle.kube_asks.specs.declared.asks.AskFault.{AskFault}
use Rattle.kube_step.specs.Errors.{refusal_of}
use Rattle.kube_feed.specs.declared.stopped.Stopped.{Stopped}
use Rattle.kube_feed.specs.declared.stopped.Stopped.TheVariants as stopped

-- P of the refusal, where a turn is refused
abbrev pub IfRefusedTurn : Stopped → (Refusal → Type 0) → Type 0
IfRefusedTurn (stopped.Refused why) P = P (refusal_of why)
IfRefusedTurn (stopped.Faulted fault) P = Unit {0}

-- P of the fault, where one ends a turn
abbrev pub IfFaulted : Stopped → (AskFault → Type 0) → Type 0
IfFaulted (stopped.Faulted fault) P = P fault
IfFaulted (stopped.Refused why) P = Unit {0}
