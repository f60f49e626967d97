use Rattle.std.proofs.Common.{map, refl, ap}
use Rattle.kube_meta.specs.Keys.{reference_of}
use Rattle.kube_asks.proofs.mapper.ByFunctionMapper.references.Goals as goal

pub returns-in-Ok : goal.returns-in-Ok
returns-in-Ok g c = record { answers = (c.args.object.now, c.in-Ok.answered, refl, c.in-Ok.ensures, ap (map (reference_of g.K.Resource.type_of)) c.from.ensures) }
