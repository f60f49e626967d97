use Rattle.kube_reflect.proofs.Relisting.{first-list}
use Rattle.kube_reflect.proofs.laws.first_list_is_the_store.Goals as goal

pub returns : goal.returns
returns g c = λ key during h. first-list key during h
