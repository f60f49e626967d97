use Rattle.kube_watch.proofs.Rows.{agrees}
use Rattle.kube_reflect.proofs.Naming.{names-agree}
use Rattle.kube_reflect.proofs.laws_of_exchanges.names_agree.Goals as goal

pub returns : goal.returns
returns g c = λ meta settings before x same api ok. names-agree meta settings before x (agrees settings before x same api ok)
