use Rattle.std.proofs.Common.{[]}
use Rattle.kube_history.proofs.Endings.{trace-may, none-runs}
use Rattle.kube_history.proofs.laws.no_two_run_at_once_in_a_trace.Goals as goal

pub returns : goal.returns
returns g c w policies ts ms k = trace-may w policies [] ts ms k (none-runs w)
