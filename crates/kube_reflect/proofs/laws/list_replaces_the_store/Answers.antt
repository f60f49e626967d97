use Rattle.kube_reflect.proofs.Relisting.{list-replaces}
use Rattle.kube_reflect.proofs.laws.list_replaces_the_store.Goals as goal

pub returns : goal.returns
returns g c = λ key before during begin b h. list-replaces key before during begin b h
