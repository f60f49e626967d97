use Rattle.std.proofs.Common.{◌<◌, length, arith}
use Rattle.kube_model.specs.Mapping.{owner_at}
use Rattle.kube_asks.proofs.Parts.{owners-more}
use Rattle.kube_asks.proofs.mapper.all_owners.Goals as goal

pub loop-one-preserved : goal.loop-one-preserved
loop-one-preserved g c =
    let l : c.loop-one.one-index < length c.args.owners.now = omega arith in
    owners-more (owner_at (g.K.Resource.type_of c.args.dyntype.now) (g.V.Resource.meta_of c.args.object.now).namespace) c.args.owners.now c.loop-one.one-index c.one-item.result l c.one-item.is
    _ _ _ c.loop-one.invariant c.in_ok-reference.ensures c.in_ok-references.ensures
