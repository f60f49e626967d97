use Rattle.std.proofs.Common.{[]}
use Rattle.kube_watch.specs.Order.{events_after}
use Rattle.kube_watch.proofs.Orders.{ordered, between}
use Rattle.kube_watch.proofs.laws.no_change_stands_in_a_list.Goals as goal

pub returns : goal.returns
returns g c settings xs made front middle back e done = between (events_after settings [] xs) front middle back (ordered settings xs made) e done
