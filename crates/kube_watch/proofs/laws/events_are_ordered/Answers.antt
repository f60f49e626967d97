use Rattle.kube_watch.proofs.Orders.{ordered}
use Rattle.kube_watch.proofs.laws.events_are_ordered.Goals as goal

pub returns : goal.returns
returns g c settings xs made = ordered settings xs made
