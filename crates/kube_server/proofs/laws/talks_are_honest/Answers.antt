use Rattle.kube_server.specs.Connections.{fresh}
use Rattle.kube_server.proofs.StandingLemmas.{all_stand, Stands-fresh}
use Rattle.kube_server.proofs.laws.talks_are_honest.Goals as goal

pub returns : goal.returns
returns c = λ meta changes compacted acts small. (all_stand meta acts (fresh changes compacted) small (Stands-fresh meta changes compacted)).honest
