use Rattle.kube_model.proofs.Marks.{initial-fold}
use Rattle.kube_model.proofs.laws.initial_is_one_bit.Goals as goal

pub returns : goal.returns
returns g c xs = initial-fold xs
