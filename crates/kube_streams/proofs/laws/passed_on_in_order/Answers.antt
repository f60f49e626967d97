use Rattle.kube_watch.specs.Asking.{Said}
use Rattle.kube_streams.proofs.PassedOn.{passed-on}
use Rattle.kube_streams.proofs.laws.passed_on_in_order.Goals as goal

pub returns : goal.returns
returns g c = λ s r ps a. passed-on (Said g.S.EventStream.polls g.S.EventStream.told) s ps r a
