-- Why turns are refused, and which faults end one.
use Rattle.std.specs.Prelude.{ℕ}
use Rattle.kube_model.specs.Traces.{Refusal, Moment as OfMoment, NotRunning as OfNotRunning, Twice as OfTwice}
use Rattle.kube_asks.specs.declared.asks.AskFault.{AskFault}
use Rattle.kube_asks.specs.declared.asks.AskFault.TheVariants as faults
use Rattle.kube_step.specs.declared.refusal.BadTurn.{BadTurn}
use Rattle.kube_step.specs.declared.refusal.BadTurn.TheVariants as refused

abbrev pub refusal_of : BadTurn → Refusal
refusal_of (refused.Moment at last) = OfMoment at.0 last.0
refusal_of (refused.NotRunning finish) = OfNotRunning finish
refusal_of (refused.Twice finish) = OfTwice finish

-- P of the source, where an item of it has no name
abbrev pub IfUnnamedAsk : AskFault → (ℕ → Type 0) → Type 0
IfUnnamedAsk (faults.Unnamed source) P = P source
IfUnnamedAsk faults.NoMemory P = Unit {0}
IfUnnamedAsk faults.Spent P = Unit {0}
