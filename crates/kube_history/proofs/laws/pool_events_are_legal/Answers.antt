use Rattle.kube_history.proofs.PoolEntries.{whole}
use Rattle.kube_history.proofs.laws.pool_events_are_legal.Goals as goal

pub returns : goal.returns
returns g c core opening entries l k = whole core opening entries l k
