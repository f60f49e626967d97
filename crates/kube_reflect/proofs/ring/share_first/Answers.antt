use Rattle.std.proofs.Common.{◌+◌, ◌<◌, ◌∙◌, ap, sym, length, map, drop, Some, arith}
use Rattle.std.specs.Arc.{arc_value}
use Rattle.std.specs.Option.{option_map, option_copied}
use Rattle.std.proofs.lemmas.List.{length-map}
use Rattle.kube_meta.specs.Keys.{reference_of}
use Rattle.kube_reflect.proofs.Lagging.{stored_here, stored_later, read-map}
use Rattle.kube_reflect.proofs.ring.share_first.Goals as goal

pub returns-in-Some-clause-first : goal.returns-in-Some-clause-first
returns-in-Some-clause-first g c =
    let ref = reference_of g.K.Resource.type_of in
    let items = c.args.references.now.items in
    let rs = map ref items in
    let place = c.loop-place.place in
    let n = length-map items ref in
    let h : c.loop-place.place < length (map (reference_of g.K.Resource.type_of) c.args.references.now.items) = omega (arith, n) in
    ap (λ m. Some (arc_value c.in_ok-object.object, drop m rs)) (omega arith)
    ∙ (ap (λ o. Some (o, drop (place + 1) rs)) c.in_ok-object.ensures
    ∙ (stored_here c.args.cache.now rs place (ref c.index-reference.result.now) _ h (read-map ref items place c.index-reference.result.now c.index-reference.ensures)
    (sym (ap (λ o. option_map arc_value (option_copied o)) c.in-Some.is) ∙ c.get.ensures)
    ∙ c.loop-place.invariant))

pub loop-place-preserved : goal.loop-place-preserved
loop-place-preserved g c =
    let ref = reference_of g.K.Resource.type_of in
    let items = c.args.references.now.items in
    let n = length-map items ref in
    let h : c.loop-place.place < length (map (reference_of g.K.Resource.type_of) c.args.references.now.items) = omega (arith, n) in
    stored_later c.args.cache.now (map ref items) c.loop-place.place (ref c.index-reference.result.now) h (read-map ref items c.loop-place.place c.index-reference.result.now c.index-reference.ensures)
    (sym (ap (λ o. option_map arc_value (option_copied o)) c.in_default.is) ∙ c.get.ensures)
    ∙ c.loop-place.invariant
