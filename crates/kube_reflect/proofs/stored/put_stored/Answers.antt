use Rattle.std.proofs.Common.{◌≡◌, ◌∙◌, ap, sym, subst, map, get_or, Ok}
use Rattle.std.specs.Prelude.{slice_get, slice_set, IfSome}
use Rattle.std.specs.Arc.{arc_value}
use Rattle.std.proofs.lemmas.List.{get_or_default}
use Rattle.kube_meta.specs.Reference.{Reference}
use Rattle.kube_meta.specs.Keys.{reference_of}
use Rattle.kube_reflect.specs.Cached.{put_under}
use Rattle.kube_reflect.specs.Indexes.{references, IsIndex}
use Rattle.kube_reflect.specs.Views.{stored_of}
use Rattle.kube_reflect.proofs.Indexed.{at-item, put_at, references-written}
use Rattle.kube_reflect.proofs.Searched.{item_there, carried, position_in, place_in, is_there, none_before}
use Rattle.kube_reflect.proofs.stored.put_stored.Goals as goal

pub returns-in-Ok-clause-index : goal.returns-in-Ok-clause-index
returns-in-Ok-clause-index g c =
    let seen = stored_of g.K.Resource.type_of in
    let items = c.args.items.now.items in
    let places = c.args.places.now.items in
    let object = c.args.stored.object in
    let r = reference_of g.K.Resource.type_of c.deref-3.result.now in
    let k = c.in-Ok.position in
    let p = get_or places k 0 in
    let found = carried seen c.deref.result.now items c.deref-2.result.now places r (Ok k) c.deref.ensures.value c.deref-2.ensures.value c.in-Ok.ensures in
    let place = c.index.ensures ∙ get_or_default places k c.index.result.now 0 (position_in seen items places c.requires.index r k found) in
    let within = place_in seen items places c.requires.index r k found in
    let item = item_there items p within in
    let x = item.0 in
    let there = subst (λ q. IfSome (slice_get items q) (λ y. c.write.new.items.items ≡ slice_set items q (record y { object = object }))) place c.write.ensures in
    let written = subst (λ o. IfSome o (λ y. c.write.new.items.items ≡ slice_set items p (record y { object = object }))) item.2 there in
    let s = record x { object = object } in
    subst (λ keys. IsIndex keys places)
    (sym (ap (λ ys. references (map seen ys)) written ∙ references-written seen items p s within (sym (at-item seen items p x within item.1))))
    c.requires.index

pub returns-in-Ok-clause-ok : goal.returns-in-Ok-clause-ok
returns-in-Ok-clause-ok g c =
    let seen = stored_of g.K.Resource.type_of in
    let items = c.args.items.now.items in
    let places = c.args.places.now.items in
    let object = c.args.stored.object in
    let r = reference_of g.K.Resource.type_of c.deref-3.result.now in
    let pair : Reference × g.row.K.Denot = (r, arc_value object) in
    let k = c.in-Ok.position in
    let p = get_or places k 0 in
    let found = carried seen c.deref.result.now items c.deref-2.result.now places r (Ok k) c.deref.ensures.value c.deref-2.ensures.value c.in-Ok.ensures in
    let place = c.index.ensures ∙ get_or_default places k c.index.result.now 0 (position_in seen items places c.requires.index r k found) in
    let within = place_in seen items places c.requires.index r k found in
    let item = item_there items p within in
    let x = item.0 in
    let there = subst (λ q. IfSome (slice_get items q) (λ y. c.write.new.items.items ≡ slice_set items q (record y { object = object }))) place c.write.ensures in
    let written = subst (λ o. IfSome o (λ y. c.write.new.items.items ≡ slice_set items p (record y { object = object }))) item.2 there in
    let s = record x { object = object } in
    let is = is_there seen items places c.requires.index r k found in
    ap (map seen) written
    ∙ (put_at seen items p s pair within (ap (λ q. (q, arc_value object)) (sym (at-item seen items p x within item.1) ∙ is)) is
    (none_before seen items places c.requires.index r k found)
    ∙ ap (λ q. put_under (map seen items) (reference_of g.K.Resource.type_of q, arc_value object)) c.deref-3.ensures)
