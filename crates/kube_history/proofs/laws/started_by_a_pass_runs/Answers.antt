use Rattle.kube_history.proofs.PoolStarts.{holds}
use Rattle.kube_history.proofs.laws.started_by_a_pass_runs.Goals as goal

pub returns : goal.returns
returns g c core opening entries k pass r h = (holds core opening entries k).run pass r h
