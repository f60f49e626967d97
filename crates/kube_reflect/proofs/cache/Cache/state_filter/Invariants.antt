use Rattle.std.proofs.Common.{map, drop, ◌++◌}
use Rattle.std.specs.Arc.{arc_value}
use Rattle.std.specs.Fn.{FnReturnsAt}
use Rattle.kube_reflect.specs.Reads.{IsFiltered}
use Rattle.kube_reflect.proofs.cache.Cache.state_filter.Given as goal

-- the rest is added to what passed so far
abbrev pub invariant-loop-stored : goal.invariant-loop-stored
invariant-loop-stored g l =
    (more : _) → IsFiltered (FnReturnsAt g.P.Fn l.p) (map (λ s. arc_value s.object) (drop l.stored-index l.stored-items)) more
    → IsFiltered (FnReturnsAt g.P.Fn l.p) (map (λ s. arc_value s.object) l.stored-items) (map arc_value l.objects.items ++ more)
