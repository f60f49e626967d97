use Rattle.std.proofs.Common.{◌∙◌, ap, sym, subst, arith, map, get_or, length, drop, Ok, Err}
use Rattle.std.specs.List.{remove}
use Rattle.std.proofs.lemmas.List.{get_or_default}
use Rattle.kube_meta.specs.Keys.{reference_of}
use Rattle.kube_reflect.specs.Indexes.{references, closed_up, IsIndex}
use Rattle.kube_reflect.specs.Views.{stored_of}
use Rattle.kube_reflect.proofs.Indexed.{drop_none, drop_at}
use Rattle.kube_reflect.proofs.Searched.{carried, take_own, position_in, place_in, is_there, alone, nowhere, indexed_removed}
use Rattle.kube_reflect.proofs.stored.remove.Goals as goal

pub returns-in_default-clause-items : goal.returns-in_default-clause-items
returns-in_default-clause-items g c =
    let seen = stored_of g.K.Resource.type_of in
    let items = c.args.items.now.items in
    let places = c.args.places.now.items in
    let r = reference_of g.K.Resource.type_of c.args.reference.now in
    let k = c.in_default.field-0 in
    let found = carried seen c.deref.result.now items c.deref-2.result.now places r (Err k) c.deref.ensures.value c.deref-2.ensures.value c.in_default.ensures in
    drop_none seen items r (nowhere seen items places c.requires.index r k found)

pub returns-clause-items : goal.returns-clause-items
returns-clause-items g c =
    let seen = stored_of g.K.Resource.type_of in
    let items = c.args.items.now.items in
    let places = c.args.places.now.items in
    let r = reference_of g.K.Resource.type_of c.args.reference.now in
    let k = c.in-Ok.position in
    let found = carried seen c.deref.result.now items c.deref-2.result.now places r (Ok k) c.deref.ensures.value c.deref-2.ensures.value c.in-Ok.ensures in
    let place = c.remove-place.ensures.value ∙ get_or_default places k c.remove-place.result 0 (position_in seen items places c.requires.index r k found) in
    c.remove.ensures.items
    ∙ (ap (remove items) place
    ∙ drop_at seen items (get_or places k 0) r (place_in seen items places c.requires.index r k found) (is_there seen items places c.requires.index r k found)
    (alone seen items places c.requires.index r k found))

pub returns-clause-index : goal.returns-clause-index
returns-clause-index g c =
    let seen = stored_of g.K.Resource.type_of in
    let items = c.args.items.now.items in
    let places = c.args.places.now.items in
    let r = reference_of g.K.Resource.type_of c.args.reference.now in
    let k = c.in-Ok.position in
    let found = carried seen c.deref.result.now items c.deref-2.result.now places r (Ok k) c.deref.ensures.value c.deref-2.ensures.value c.in-Ok.ensures in
    let place = c.remove-place.ensures.value ∙ get_or_default places k c.remove-place.result 0 (position_in seen items places c.requires.index r k found) in
    let p = c.remove-place.result in
    let closed = c.close_up.new.places in
    let long = c.close_up.auto.places in
    let len = c.deref_mut.ensures.len in
    let left = take_own closed (drop (length closed) c.remove-place.new.self.items) c.remove-place.new.self.len (omega arith) in
    let is = left ∙ (c.close_up.ensures ∙ (ap (map (closed_up p)) (c.deref_mut.ensures.value ∙ c.remove-place.ensures.items) ∙ ap (λ q. map (closed_up q) (remove places k)) place)) in
    let was = c.remove.ensures.items ∙ ap (remove items) place in
    subst (λ ps. IsIndex (references (map seen c.remove.new.self.items)) ps) (sym is)
    (subst (λ xs. IsIndex (references (map seen xs)) (map (closed_up (get_or places k 0)) (remove places k))) (sym was)
    (indexed_removed seen items places c.requires.index r k found))
