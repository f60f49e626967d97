use Rattle.std.proofs.Common.{◌≡◌, subst}
use Rattle.std.specs.Prelude.{IfOk}
use Rattle.std.specs.Option.{option_map}
use Rattle.std.specs.Arc.{arc_value}
use Rattle.kube_meta.specs.Keys.{reference_of}
use Rattle.kube_reflect.specs.Reads.{object_at}
use Rattle.kube_reflect.proofs.Looking.{read_stored}
use Rattle.kube_reflect.proofs.reader.Store.get.Goals as goal

pub returns-clause-read : goal.returns-clause-read
returns-clause-read g c =
    let stored = read_stored g.K.Resource.type_of g.K.Resource.meta_of c.enter-reading.new.self c.leave.new.self _ _ _ c.enter-reading.ensures.made c.made.ensures c.cache.ensures c.leave.ensures in
    subst (λ s. IfOk c.get_in-found.result (λ o. option_map arc_value o ≡ object_at s (reference_of g.K.Resource.type_of c.args.key.now))) stored c.get_in-found.ensures
