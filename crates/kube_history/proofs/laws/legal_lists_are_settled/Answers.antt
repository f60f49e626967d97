use Rattle.kube_history.proofs.SettledOn.{settled}
use Rattle.kube_history.proofs.laws.legal_lists_are_settled.Goals as goal

pub returns : goal.returns
returns g c core es legal unshut = settled core es legal unshut
