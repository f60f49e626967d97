use Rattle.kube_run.proofs.Ends.{ends-once}
use Rattle.kube_run.proofs.laws.one_end.Goals as goal

pub returns : goal.returns
returns c = record { end = ends-once }
