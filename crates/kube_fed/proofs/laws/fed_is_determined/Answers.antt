use Rattle.std.proofs.Common.{refl}
use Rattle.std.specs.Arc.{arc_value}
use Rattle.kube_watch.specs.Asking.{Said}
use Rattle.kube_asks.specs.Roots.{has_name}
use Rattle.kube_fed.proofs.Determined.{fed-determined}
use Rattle.kube_fed.proofs.laws.fed_is_determined.Goals as goal

pub returns : goal.returns
returns g c one-way once = record {
  fed_alike = λ a b k. refl;
  same = λ a b a' b' own at x y k f h source p q.
      let same = fed-determined (Said g.St.EventStream.polls g.St.EventStream.told) arc_value g.V.Resource.meta_of (has_name g.V.Resource.meta_of) g.M.Mapper.answers one-way once at a b a' b' x y k source p q in
      (same.0, same.1, refl);
}
