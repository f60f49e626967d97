use Rattle.kube_model.proofs.SettledSteps.{settled-trace}
use Rattle.kube_model.proofs.laws.nothing_stays_unreconciled.Goals as goal

pub returns : goal.returns
returns g c w settings watched policies ts ms k n unshut going = settled-trace w settings watched policies ts ms k n unshut going
