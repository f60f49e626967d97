use Rattle.std.specs.Arc.{arc_value}
use Rattle.kube_watch.specs.Asking.{Said}
use Rattle.kube_streams.proofs.Applying.{applied-so-far}
use Rattle.kube_streams.proofs.laws.reflect_in_order.Goals as goal

pub returns : goal.returns
returns g c = λ a b ps p. applied-so-far arc_value g.K.Resource.meta_of (Said g.S.EventStream.polls g.S.EventStream.told) a ps b p
