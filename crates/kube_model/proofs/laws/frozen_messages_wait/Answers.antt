use Rattle.kube_model.proofs.Waits.{waiting-frozen}
use Rattle.kube_model.proofs.laws.frozen_messages_wait.Goals as goal

pub returns : goal.returns
returns g c same equiv debounce events m = waiting-frozen same equiv debounce events m
