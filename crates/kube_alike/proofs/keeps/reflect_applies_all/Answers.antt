use Rattle.kube_watch.specs.Asking.{Said}
use Rattle.std.specs.Arc.{arc_value}
use Rattle.kube_alike.proofs.KeptEvents.{applied-all}
use Rattle.kube_alike.proofs.keeps.reflect_applies_all.Goals as goal

pub returns : goal.returns
returns g c a now fuel answer b p sound = applied-all arc_value g.K.Resource.meta_of (Said g.S.EventStream.polls g.S.EventStream.told) a now fuel answer b p.0 sound
