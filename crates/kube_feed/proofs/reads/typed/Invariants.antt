use Rattle.std.proofs.Common.{◌≡◌, ◌++◌, map}
use Rattle.kube_meta.specs.Keys.{reference_of}
use Rattle.kube_feed.specs.Requests.{typed_as}
use Rattle.kube_feed.proofs.reads.typed.Given as goal

-- what has its type, and what is left, are all
abbrev pub invariant-loop-key : goal.invariant-loop-key
invariant-loop-key g l =
    let ref = reference_of g.K.Resource.type_of in
    let typed = typed_as (g.K.Resource.type_of l.dyntype) in
    map ref l.typed.items ++ map typed (map ref l.key-iterator.rest.items) ≡ map typed (map ref l.initial.key-iterator.rest.items)
