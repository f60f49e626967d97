use Rattle.kube_history.proofs.Calls.{no-event}
use Rattle.kube_history.proofs.laws.late_turn_leaves_no_event.Goals as goal

pub returns : goal.returns
returns g c w h s k e = no-event w h s k e
