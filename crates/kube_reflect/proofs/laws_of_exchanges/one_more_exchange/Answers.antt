use Rattle.kube_reflect.proofs.Exchanging.{one-more}
use Rattle.kube_reflect.proofs.laws_of_exchanges.one_more_exchange.Goals as goal

pub returns : goal.returns
returns g c = λ key settings xs x k may left. one-more key settings xs x k may left
