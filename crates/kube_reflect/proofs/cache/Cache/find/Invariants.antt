use Rattle.std.proofs.Common.{map, drop}
use Rattle.std.specs.Arc.{arc_value}
use Rattle.std.specs.Fn.{FnReturnsAt}
use Rattle.kube_reflect.specs.Reads.{IsFirst}
use Rattle.kube_reflect.proofs.cache.Cache.find.Given as goal

-- the rest decides
abbrev pub invariant-loop-stored : goal.invariant-loop-stored
invariant-loop-stored g l =
    (first : _) → IsFirst (FnReturnsAt g.P.Fn l.p) (map (λ s. arc_value s.object) (drop l.stored-index l.stored-items)) first
    → IsFirst (FnReturnsAt g.P.Fn l.p) (map (λ s. arc_value s.object) l.stored-items) first
