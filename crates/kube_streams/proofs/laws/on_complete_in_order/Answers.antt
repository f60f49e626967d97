use Rattle.kube_watch.specs.Asking.{Said}
use Rattle.kube_streams.proofs.Completing.{completed-so-far}
use Rattle.kube_streams.proofs.laws.on_complete_in_order.Goals as goal

pub returns : goal.returns
returns g c = λ a b ps p. completed-so-far g.F.FnOnce (Said g.S.EventStream.polls g.S.EventStream.told) a ps b p
