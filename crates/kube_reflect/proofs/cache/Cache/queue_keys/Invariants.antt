use Rattle.std.proofs.Common.{◌≡◌, map, take}
use Rattle.std.specs.Arc.{arc_value}
use Rattle.kube_meta.specs.Keys.{reference_of}
use Rattle.kube_reflect.proofs.cache.Cache.queue_keys.Given as goal

abbrev pub invariant-loop-stored : goal.invariant-loop-stored
invariant-loop-stored g l =
    map (reference_of g.K.Resource.type_of) l.keys.items ≡ map (λ s. reference_of g.K.Resource.type_of (arc_value s.reference)) (take l.stored-index l.stored-items)
