use Rattle.kube_final.proofs.Asking.{IsPlayedSo}
use Rattle.kube_final.proofs.play.played.Given as goal

abbrev pub invariant-loop-step : goal.invariant-loop-step
invariant-loop-step l = IsPlayedSo l.name l.life l.step-index l.stage
