use Rattle.std.proofs.Common.{◌++◌, false, map, subst, sym, true}
use Rattle.serde_json.specs.View.{items_of}
use Rattle.serde_json.specs.Written.{items_text, members_text}
use Rattle.kube_text.specs.Pieces.{Holds}
use Rattle.kube_text.proofs.Lines.{list_more}
use Rattle.kube_text.proofs.pieces.write_list.Goals as goal

pub returns-clause-part : goal.returns-clause-part
returns-clause-part g c rest end start whole h =
    let now = g.W.Sink.written c.args.sink.now in
    let after = members_text true rest ++ end in
    c.write_items.ensures.part after start whole
    (subst (λ xs. Holds start now c.in_ok-line.line.items (items_text false (items_of (map g.T.Show.data_of (map g.T.Show.seen xs))) ++ after) whole) (sym c.as_slice.ensures)
    (list_more start now c.args.line.items c.in_ok-line.line.items c.args.is_later c.args.name.now (items_of (map g.T.Show.data_of (map g.T.Show.seen c.args.items.now))) rest end whole c.in_ok-line.ensures h))
