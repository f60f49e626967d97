use Rattle.kube_model.proofs.OneTrace.{same-traces}
use Rattle.kube_model.proofs.laws.what_is_told_determines_the_trace.Goals as goal

pub returns : goal.returns
returns g c w policies h ts ms ns p q e = same-traces w policies h ts ms ns p q e
