use Rattle.kube_history.proofs.TurnCalls.{requests-join}
use Rattle.kube_history.proofs.laws.requests_join.Goals as goal

pub returns : goal.returns
returns c events at ps qs = requests-join events at ps qs
