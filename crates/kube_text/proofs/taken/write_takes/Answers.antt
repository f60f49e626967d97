use Rattle.std.proofs.Common.{◌++◌, codes, false, map, subst, sym, true}
use Rattle.std.specs.List.{filter_map}
use Rattle.serde_json.specs.View.{items_of}
use Rattle.serde_json.specs.Written.{items_text, members_text}
use Rattle.kube_object.specs.Named.{named_type}
use Rattle.kube_turn.specs.Views.{taken_of}
use Rattle.kube_text.specs.Pieces.{Holds}
use Rattle.kube_text.specs.TraceText.{taken_data}
use Rattle.kube_text.proofs.Lines.{list_more}
use Rattle.kube_text.proofs.taken.write_takes.Goals as goal

pub returns-clause-part : goal.returns-clause-part
returns-clause-part g c rest end start whole h =
    let now = g.W.Sink.written c.args.sink.now in
    let after = members_text true rest ++ end in
    c.write_taken.ensures.part after start whole
    (subst (λ xs. Holds start now c.in_ok-line.line.items (items_text false (items_of (map taken_data (filter_map (taken_of named_type) xs))) ++ after) whole) (sym c.as_slice.ensures)
    (list_more start now c.args.line.items c.in_ok-line.line.items true (codes "taken") (items_of (map taken_data (filter_map (taken_of named_type) c.args.takes.now))) rest end whole c.in_ok-line.ensures h))
