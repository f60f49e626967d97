use Rattle.std.proofs.Common.{◌∙◌, sym, ap, Some, get_or}
use Rattle.std.specs.Option.{option_map}
use Rattle.std.specs.Arc.{arc_value}
use Rattle.kube_meta.specs.Keys.{reference_of}
use Rattle.kube_reflect.specs.declared.stored.Stored.{Stored}
use Rattle.kube_reflect.specs.Indexes.{sought}
use Rattle.kube_reflect.specs.Views.{stored_of}
use Rattle.kube_reflect.proofs.Indexed.{find_at, find_none, at-item}
use Rattle.kube_reflect.proofs.Searched.{place_in, is_there, none_before, nowhere}
use Rattle.kube_reflect.proofs.cache.find_by.Goals as goal

pub returns-in-Ok-clause-found : goal.returns-in-Ok-clause-found
returns-in-Ok-clause-found g c =
    let seen = stored_of g.K.Resource.type_of in
    let items = c.args.items.now in
    let places = c.args.places.now in
    let r = sought c.args.within (reference_of g.K.Resource.type_of c.args.reference.now) in
    let k = c.in-Ok.position in
    let p = get_or places k 0 in
    let x = c.index-items-places.result in
    let found = c.in-Ok.ensures.searched in
    let within = place_in seen items places c.requires.index r k found in
    ap (λ (y : Stored g.row.K.Denot g.row.K-DynamicType.Denot). Some (arc_value y.object)) (sym c.index-items-places.is)
    ∙ sym (ap (option_map (λ (y : Stored g.row.K.Denot g.row.K-DynamicType.Denot). arc_value y.object))
    (find_at seen items p x r within c.index-items-places.is
    (sym (at-item seen items p x within c.index-items-places.is) ∙ is_there seen items places c.requires.index r k found)
    (none_before seen items places c.requires.index r k found)))

pub returns-in-Err-clause-found : goal.returns-in-Err-clause-found
returns-in-Err-clause-found g c =
    let seen = stored_of g.K.Resource.type_of in
    let items = c.args.items.now in
    let r = sought c.args.within (reference_of g.K.Resource.type_of c.args.reference.now) in
    sym (ap (option_map (λ (y : Stored g.row.K.Denot g.row.K-DynamicType.Denot). arc_value y.object))
    (find_none seen items r (nowhere seen items c.args.places.now c.requires.index r c.in-Err.field-0 c.in-Err.ensures.searched)))
