use Rattle.kube_watch.proofs.Idling.{idles-once}
use Rattle.kube_watch.proofs.laws.idles_at_most_once.Goals as goal

pub returns : goal.returns
returns g c settings ds now xs made = idles-once settings now ds xs made
