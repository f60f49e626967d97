use Rattle.std.proofs.Common.{◌≡◌, map, take}
use Rattle.std.specs.Arc.{arc_value}
use Rattle.kube_reflect.proofs.cache.Cache.state.Given as goal

abbrev pub invariant-loop-stored : goal.invariant-loop-stored
invariant-loop-stored g l = map arc_value l.objects.items ≡ map (λ s. arc_value s.object) (take l.stored-index l.stored-items)
