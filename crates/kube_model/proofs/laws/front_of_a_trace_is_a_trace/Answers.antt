use Rattle.kube_model.proofs.Fronts.{front}
use Rattle.kube_model.proofs.laws.front_of_a_trace_is_a_trace.Goals as goal

pub returns : goal.returns
returns g c w policies h ts ms n l k = front w policies h ts ms n l k
