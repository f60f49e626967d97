use Rattle.std.proofs.Common.{◌≡◌, map, take}
use Rattle.std.specs.List.{filter_map}
use Rattle.kube_meta.specs.Keys.{reference_of}
use Rattle.kube_model.specs.Mapping.{owner_at}
use Rattle.kube_asks.proofs.mapper.all_owners.Given as goal

-- as far as the loop has come
abbrev pub invariant-loop-one : goal.invariant-loop-one
invariant-loop-one g l =
    map (reference_of g.K.Resource.type_of) l.references ≡ filter_map (owner_at (g.K.Resource.type_of l.dyntype) (g.V.Resource.meta_of l.object).namespace) (take l.one-index l.owners)
