use Rattle.kube_model.proofs.Waits.{waiting-is}
use Rattle.kube_model.proofs.laws.frozen_entries_wait_in_their_order.Goals as goal

pub returns : goal.returns
returns g c same equiv debounce events fs order own whole = waiting-is same equiv debounce events fs order own whole
