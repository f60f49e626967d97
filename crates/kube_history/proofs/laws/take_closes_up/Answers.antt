use Rattle.kube_history.proofs.TakesBack.{waiting-took}
use Rattle.kube_history.proofs.laws.take_closes_up.Goals as goal

pub returns : goal.returns
returns c debounce events m = waiting-took debounce events m
