use Rattle.kube_server.proofs.OrderLemmas.{states-ascend}
use Rattle.kube_server.proofs.laws.states_are_in_order.Goals as goal

pub returns : goal.returns
returns c = λ meta changes. states-ascend meta changes
