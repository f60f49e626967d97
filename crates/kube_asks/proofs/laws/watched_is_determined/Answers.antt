use Rattle.std.proofs.Common.{Some, ap}
use Rattle.kube_meta.specs.Keys.{is_named}
use Rattle.kube_watch.specs.Calls.{version_of}
use Rattle.kube_asks.proofs.Determined.{watched-determined}
use Rattle.kube_asks.proofs.laws.watched_is_determined.Goals as goal

pub returns : goal.returns
returns g c one-way once = record {
  fed_alike = λ a b k. ap Some k.settings;
  same = watched-determined (record { moves = g.A.ApiMode.moves; talk = g.A.ApiMode.talk; faults = g.A.ApiMode.faults; version = version_of g.A.Value.Resource.meta_of })
      g.A.Value.Resource.meta_of (λ o. is_named (g.A.Value.Resource.meta_of o)) g.M.Mapper.answers one-way once;
}
