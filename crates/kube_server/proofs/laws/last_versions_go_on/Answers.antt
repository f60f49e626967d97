use Rattle.kube_server.proofs.LastLemmas.{last-told}
use Rattle.kube_server.proofs.laws.last_versions_go_on.Goals as goal

pub returns : goal.returns
returns g c = λ meta selects history s from events event to object is told f. last-told meta selects history s from events event to object is told f
