use Rattle.std.proofs.Common.{◌∙◌, ap, sym, subst, refl}
use Rattle.kube_reflect.specs.Indexes.{references, IsIndex}
use Rattle.kube_reflect.specs.Views.{all_stored}
use Rattle.kube_reflect.proofs.Sorting.{puts_indexed}
use Rattle.kube_reflect.proofs.buffer.Buffer.take.Goals as goal

pub returns-then-rise-clause-cache : goal.returns-then-rise-clause-cache
returns-then-rise-clause-cache g c =
    let type_of = g.K.Resource.type_of in
    let places = c.deref-3.result.now in
    let index = subst (λ xs. IsIndex (references (all_stored type_of xs)) places) c.deref-2.ensures.value (c.if-rise.ensures.index refl) in
    c.indexed.ensures
    ∙ (ap (λ v. all_stored type_of v.items) c.replace-items.ensures.value
    ∙ (sym (puts_indexed (all_stored type_of c.self.inside.items.items) places index) ∙ c.self.view_is))
