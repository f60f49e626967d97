use Rattle.kube_history.proofs.OneTurn.{whole-trace}
use Rattle.kube_history.proofs.laws.trace_agrees.Goals as goal

pub returns : goal.returns
returns g c w settings watched policies ts ms k n = whole-trace w settings watched policies ts ms k n
