use Rattle.kube_history.proofs.TakesBack.{store-turn}
use Rattle.kube_history.proofs.laws.takes_one_after_another.Goals as goal

pub returns : goal.returns
returns g c key limit store ts rs ws once h = store-turn key limit store ts rs ws once h
