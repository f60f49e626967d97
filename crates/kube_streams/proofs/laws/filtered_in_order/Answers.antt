use Rattle.std.specs.Arc.{arc_value}
use Rattle.kube_watch.specs.Asking.{Said}
use Rattle.kube_streams.proofs.Filtered.{filtered-so-far}
use Rattle.kube_streams.proofs.laws.filtered_in_order.Goals as goal

pub returns : goal.returns
returns g c = λ from a b ps m p none. filtered-so-far g.P.Predicate.gives g.K.Resource.meta_of arc_value (Said g.S.EventStream.polls g.S.EventStream.told) from a b ps m p none
