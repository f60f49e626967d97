use Rattle.kube_model.proofs.Histories.{running-fold}
use Rattle.kube_model.proofs.laws.running_is_a_table.Goals as goal

pub returns : goal.returns
returns g c h = running-fold h
