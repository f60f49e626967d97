use Rattle.kube_reflect.proofs.Seeing.{each-once}
use Rattle.kube_reflect.proofs.laws.each_offer_is_seen_once.Goals as goal

pub returns : goal.returns
returns g c = λ rs acts. each-once rs acts
