use Rattle.kube_watch.specs.Asking.{Said}
use Rattle.kube_streams.proofs.Modifying.{modified-so-far}
use Rattle.kube_streams.proofs.laws.event_modify_in_order.Goals as goal

pub returns : goal.returns
returns g c = λ a b ps p. modified-so-far g.F.FnMut (Said g.S.EventStream.polls g.S.EventStream.told) a ps b p
