use Rattle.kube_lease.proofs.Staging.{IsPlayed}
use Rattle.kube_lease.proofs.play.played.Given as goal

abbrev pub invariant-loop-step : goal.invariant-loop-step
invariant-loop-step l = IsPlayed l.candidates l.election l.step-index l.stage
