use Rattle.std.proofs.Common.{◌≡◌, map, take}
use Rattle.std.specs.List.{filter}
use Rattle.std.specs.Arc.{arc_value}
use Rattle.kube_reflect.specs.Reads.{is_selected}
use Rattle.kube_reflect.proofs.cache.Cache.state_filter_selector.Given as goal

-- as far as the loop has come
abbrev pub invariant-loop-stored : goal.invariant-loop-stored
invariant-loop-stored g l =
    map arc_value l.objects.items ≡ filter (λ o. is_selected l.selector (g.K.Resource.meta_of o)) (map (λ s. arc_value s.object) (take l.stored-index l.stored-items))
