use Rattle.kube_watch.proofs.Rows.{agrees}
use Rattle.kube_watch.proofs.laws.the_table_agrees.Goals as goal

pub returns : goal.returns
returns g c settings before x same api ok = agrees settings before x same api ok
