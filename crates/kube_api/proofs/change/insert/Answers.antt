use Rattle.std.proofs.Common.{◌≡◌, Some, option_and_then, sym, ap, ◌∙◌, arith, rules}
use Rattle.serde_json.specs.View.{view, items_view}
use Rattle.kube_api.specs.Patches.{inserted_item, new_index}
use Rattle.kube_api.proofs.Parts.{item_inserted, past_the_end}
use Rattle.kube_api.proofs.change.insert.Goals as goal

pub returns-then-len-i : goal.returns-then-len-i
returns-then-len-i c =
    let items = c.args.items.now.items in
    let same : c.deref.result.now ≡ items = search rules in
    let at = ap (λ xs. new_index c.args.name.now (items_view xs)) (sym same) ∙ sym c.place.ensures ∙ c.in-Some.is in
    sym (ap (option_and_then (λ i. inserted_item i (view c.args.part) (items_view items))) at ∙ past_the_end items c.in-Some.i c.args.part (omega (arith, c.if-len-i.true, c.len.ensures)))

pub returns : goal.returns
returns c =
    let items = c.args.items.now.items in
    let same : c.deref.result.now ≡ items = search rules in
    let at = ap (λ xs. new_index c.args.name.now (items_view xs)) (sym same) ∙ sym c.place.ensures ∙ c.in-Some.is in
    let inserted = item_inserted items c.in-Some.i c.args.part (omega (arith, c.if-len-i.false, c.len.ensures)) in
    ap (λ xs. Some (items_view xs)) c.in_ok-insert.ensures.items ∙ sym (ap (option_and_then (λ i. inserted_item i (view c.args.part) (items_view items))) at ∙ inserted)
