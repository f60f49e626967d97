use Rattle.std.proofs.Common.{arith, ap, ◌∙◌, map}
use Rattle.std.proofs.lemmas.List.{take_all}
use Rattle.std.specs.List.{filter}
use Rattle.std.specs.Arc.{arc_value}
use Rattle.kube_reflect.specs.Reads.{objects, is_selected}
use Rattle.kube_reflect.specs.Views.{stored_of}
use Rattle.kube_reflect.proofs.Reading.{objects-seen}
use Rattle.kube_reflect.proofs.cache.Cache.state_filter_selector.Goals as goal

pub returns : goal.returns
returns g c =
    let seen = stored_of g.K.Resource.type_of in
    let items = c.deref-stored-items.result.now in
    c.loop-stored.invariant
    ∙ ap (filter (λ o. is_selected c.args.selector.now (g.K.Resource.meta_of o)))
    (ap (map (λ s. arc_value s.object)) (take_all c.loop-stored.stored-index items (omega arith)) ∙ (objects-seen seen items ∙ ap objects (ap (map seen) c.deref-stored-items.ensures.value ∙ c.self.view_is)))
