use Rattle.std.proofs.Common.{[], arith, inr}
use Rattle.kube_history.proofs.OneAtATime.{legal-may}
use Rattle.kube_history.proofs.laws.no_two_run_at_once.Goals as goal

pub returns : goal.returns
returns g c core es l = legal-may core [] es l (record { once = tt; within = inr (omega arith) })
