use Rattle.std.proofs.Common.{◌++◌, ◌+◌, ◌<◌, ◌∙◌, arith, drop, length, map, subst, sym, true}
use Rattle.std.specs.List.{filter_map}
use Rattle.serde_json.specs.View.{items_of}
use Rattle.serde_json.specs.Written.{items_text}
use Rattle.kube_object.specs.Named.{named_type}
use Rattle.kube_turn.specs.Views.{taken_of}
use Rattle.kube_text.specs.Part.{AppendsPart}
use Rattle.kube_text.specs.Pieces.{Holds}
use Rattle.kube_text.specs.TraceText.{taken_data}
use Rattle.kube_text.proofs.Lines.{front}
use Rattle.kube_model.proofs.Results.{on_err}
use Rattle.kube_text.proofs.Takes.{next_take}
use Rattle.kube_text.proofs.taken.write_taken.Goals as goal

pub returns-in_err-line-clause-part : goal.returns-in_err-line-clause-part
returns-in_err-line-clause-part g c left start whole h =
    let now = g.W.Sink.written c.loop-taken.sink in
    let i = c.loop-taken.taken-index in
    let l : i < length c.args.takes.now = omega arith in
    on_err c.from_residual.result (AppendsPart start (g.W.Sink.written c.write_item.new.sink) whole)
    (c.in_err-line.ensures.part (items_text true (items_of (map taken_data (filter_map (taken_of named_type) (drop (i + 1) c.args.takes.now)))) ++ left) start whole
    (subst (λ t. Holds start now c.loop-taken.line.items t whole)
    (next_take (taken_of named_type) c.loop-taken.is_later c.args.takes.now i c.taken-item.result left l c.taken-item.is (sym c.is_of_some.ensures ∙ c.if-is_of_some.true))
    (c.loop-taken.invariant.0 left start whole h)))

pub returns-in_err-push-clause-part : goal.returns-in_err-push-clause-part
returns-in_err-push-clause-part g c left start whole h =
    let now = g.W.Sink.written c.loop-taken.sink in
    on_err c.from_residual-in_err-push.result (AppendsPart start now whole) (front start now c.loop-taken.line.items _ whole (c.loop-taken.invariant.0 left start whole h))
