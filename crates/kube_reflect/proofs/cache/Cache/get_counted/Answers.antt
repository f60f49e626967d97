use Rattle.std.proofs.Common.{ap, ◌∙◌, map}
use Rattle.std.specs.List.{find}
use Rattle.std.specs.Option.{option_map, option_copied}
use Rattle.std.specs.Arc.{arc_value}
use Rattle.kube_meta.specs.Keys.{reference_of}
use Rattle.kube_meta.specs.Reference.{same_reference, without_namespace}
use Rattle.kube_reflect.specs.Views.{stored_of}
use Rattle.kube_reflect.specs.Reads.{object_at}
use Rattle.kube_reflect.proofs.Reading.{found_first, found_second}
use Rattle.kube_reflect.proofs.cache.Cache.get_counted.Goals as goal

pub returns-in-Some-clause-found : goal.returns-in-Some-clause-found
returns-in-Some-clause-found g c =
    let seen = stored_of g.K.Resource.type_of in
    let r = reference_of g.K.Resource.type_of c.args.key.now in
    found_first seen c.deref.result.now r _ _ (ap (λ o. option_map arc_value (option_copied o)) c.in-Some.is) c.find_by.ensures.found
    ∙ (ap (λ xs. object_at (map seen xs) r) c.deref.ensures.value ∙ ap (λ s. object_at s r) c.self.view_is)

pub returns-in-None-clause-found : goal.returns-in-None-clause-found
returns-in-None-clause-found g c =
    let seen = stored_of g.K.Resource.type_of in
    let r = reference_of g.K.Resource.type_of c.args.key.now in
    found_second seen c.self.inside.items.items r _ _ (ap (λ o. option_map arc_value (option_copied o)) c.in-None.is)
    (c.find_by.ensures.found ∙ ap (λ xs. option_map (λ s. arc_value s.object) (find (λ s. same_reference (reference_of g.K.Resource.type_of (arc_value s.reference)) r) xs)) c.deref.ensures.value)
    (c.find_by-in-None.ensures.found ∙ ap (λ xs. option_map (λ s. arc_value s.object) (find (λ s. same_reference (reference_of g.K.Resource.type_of (arc_value s.reference)) (without_namespace r)) xs)) c.deref-in-None.ensures.value)
    ∙ ap (λ s. object_at s r) c.self.view_is
