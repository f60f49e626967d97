use Rattle.std.proofs.Common.{[]}
use Rattle.kube_history.proofs.Endings.{each-shuts}
use Rattle.kube_history.proofs.laws.nothing_follows_a_shutdown.Goals as goal

pub returns : goal.returns
returns g c w policies ts ms k = each-shuts w policies [] ts ms k
