use Rattle.kube_history.proofs.PoolEntries.{shrinks, grows}
use Rattle.kube_history.proofs.laws.pool_history_grows.Goals as goal

pub returns : goal.returns
returns g c core opening entries e = (shrinks core opening entries e, grows core opening entries e)
