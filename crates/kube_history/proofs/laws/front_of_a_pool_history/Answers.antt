use Rattle.kube_history.proofs.PoolEntries as pool
use Rattle.kube_history.proofs.laws.front_of_a_pool_history.Goals as goal

pub returns : goal.returns
returns g c core opening front rest k = pool.front core opening front rest k
