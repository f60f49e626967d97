use Rattle.kube_watch.proofs.Fitting.{items-fit}
use Rattle.kube_watch.proofs.laws.recorded_objects_fit.Goals as goal

pub returns : goal.returns
returns g c = λ w settings raw x recorded. items-fit w settings raw x recorded
