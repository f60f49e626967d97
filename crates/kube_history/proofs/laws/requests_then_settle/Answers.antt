use Rattle.kube_history.proofs.TurnCalls.{settle-join}
use Rattle.kube_history.proofs.laws.requests_then_settle.Goals as goal

pub returns : goal.returns
returns c events at qs = settle-join events at qs
