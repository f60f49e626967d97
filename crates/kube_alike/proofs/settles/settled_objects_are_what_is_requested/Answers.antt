use Rattle.kube_alike.proofs.SettlesRequests.{settled-requested}
use Rattle.kube_alike.proofs.settles.settled_objects_are_what_is_requested.Goals as goal

pub returns : goal.returns
returns g c w settings xs made = settled-requested w settings xs made
