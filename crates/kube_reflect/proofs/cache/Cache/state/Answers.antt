use Rattle.std.proofs.Common.{arith, ap, ◌∙◌, map}
use Rattle.std.proofs.lemmas.List.{take_all}
use Rattle.std.specs.Arc.{arc_value}
use Rattle.kube_reflect.specs.Reads.{objects}
use Rattle.kube_reflect.specs.Views.{stored_of}
use Rattle.kube_reflect.proofs.Reading.{objects-seen}
use Rattle.kube_reflect.proofs.cache.Cache.state.Goals as goal

pub returns : goal.returns
returns g c =
    let seen = stored_of g.K.Resource.type_of in
    let items = c.deref-stored-items.result.now in
    c.loop-stored.invariant
    ∙ (ap (map (λ s. arc_value s.object)) (take_all c.loop-stored.stored-index items (omega arith))
    ∙ (objects-seen seen items ∙ ap objects (ap (map seen) c.deref-stored-items.ensures.value ∙ c.self.view_is)))
