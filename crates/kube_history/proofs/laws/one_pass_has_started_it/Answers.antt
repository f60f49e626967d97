use Rattle.kube_history.proofs.PoolStarts.{holds}
use Rattle.kube_history.proofs.laws.one_pass_has_started_it.Goals as goal

pub returns : goal.returns
returns g c core opening entries k pass other r s w h i = (holds core opening entries k).one pass other r s w h i
