use Rattle.std.proofs.Common.{Some, sym, ap, ◌∙◌, arith}
use Rattle.serde_json.specs.View.{items_view}
use Rattle.kube_api.proofs.Parts.{item_removed, none_removed}
use Rattle.kube_api.proofs.change.take_out.Goals as goal

pub returns-then-len-i : goal.returns-then-len-i
returns-then-len-i c =
    let at = sym c.index.ensures ∙ c.in-Some.is in
    rw at (sym (none_removed c.args.items.now.items c.in-Some.i (omega (arith, c.if-len-i.true, c.len.ensures))))

pub returns : goal.returns
returns c =
    let at = sym c.index.ensures ∙ c.in-Some.is in
    rw at (ap (λ xs. Some (items_view xs)) c.remove-item.ensures.items ∙ sym (item_removed c.args.items.now.items c.in-Some.i (omega (arith, c.if-len-i.false, c.len.ensures))))
