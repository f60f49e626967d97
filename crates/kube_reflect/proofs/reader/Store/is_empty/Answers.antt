use Rattle.std.proofs.Common.{◌≡◌, [], subst}
use Rattle.std.specs.Prelude.{◌↔◌, IsTrue}
use Rattle.kube_reflect.proofs.Looking.{read_stored}
use Rattle.kube_reflect.proofs.reader.Store.is_empty.Goals as goal

pub returns-clause-read : goal.returns-clause-read
returns-clause-read g c =
    let stored = read_stored g.K.Resource.type_of g.K.Resource.meta_of c.enter-reading.new.self c.leave.new.self _ _ _ c.enter-reading.ensures.made c.made.ensures c.cache.ensures c.leave.ensures in
    subst (λ s. IsTrue c.is_empty-is_empty.result ↔ (s ≡ [])) stored c.is_empty-is_empty.ensures
