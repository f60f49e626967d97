use Rattle.std.proofs.Common.{◌≡◌, map, subst}
use Rattle.std.specs.Prelude.{IfOk}
use Rattle.kube_meta.specs.Keys.{reference_of}
use Rattle.kube_reflect.proofs.Looking.{read_stored}
use Rattle.kube_reflect.proofs.reader.Store.keys.Goals as goal

pub returns-clause-read : goal.returns-clause-read
returns-clause-read g c =
    let stored = read_stored g.K.Resource.type_of g.K.Resource.meta_of c.enter-reading.new.self c.leave.new.self _ _ _ c.enter-reading.ensures.made c.made.ensures c.cache.ensures c.leave.ensures in
    subst (λ s. IfOk c.keys-keys.result (λ v. map (reference_of g.K.Resource.type_of) v.items ≡ map (λ e. e.0) s)) stored c.keys-keys.ensures
