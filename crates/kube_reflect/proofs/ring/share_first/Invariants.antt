use Rattle.std.proofs.Common.{◌≡◌, drop, map}
use Rattle.kube_meta.specs.Keys.{reference_of}
use Rattle.kube_reflect.specs.Subscribers.{first_stored}
use Rattle.kube_reflect.proofs.ring.share_first.Given as goal

-- nothing is stored under those that were passed over
abbrev pub invariant-loop-place : goal.invariant-loop-place
invariant-loop-place g l =
    first_stored l.cache (drop l.place (map (reference_of g.K.Resource.type_of) l.references.items))
    ≡ first_stored l.cache (drop l.from (map (reference_of g.K.Resource.type_of) l.references.items))
