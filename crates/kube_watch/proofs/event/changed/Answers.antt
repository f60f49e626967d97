use Rattle.std.proofs.Common.{refl}
use Rattle.kube_watch.proofs.event.changed.Goals as goal

pub returns : goal.returns
returns g c = (c.f.new.self, record { shown = _; shows = refl; left = _; called = c.f.ensures; leaves = refl })
