use Rattle.std.proofs.Common.{◌++◌, ◌+◌, ◌<◌, arith, drop, length, map, subst, true}
use Rattle.serde_json.specs.View.{items_of}
use Rattle.serde_json.specs.Written.{items_text}
use Rattle.kube_text.specs.Part.{AppendsPart}
use Rattle.kube_text.specs.Pieces.{Holds}
use Rattle.kube_text.proofs.Lines.{front, next_due}
use Rattle.kube_model.proofs.Results.{on_err}
use Rattle.kube_text.proofs.pieces.write_items.Goals as goal

pub returns-in_err-line-clause-part : goal.returns-in_err-line-clause-part
returns-in_err-line-clause-part g c left start whole h =
    let now = g.W.Sink.written c.loop-value.sink in
    let i = c.loop-value.value-index in
    let l : i < length c.args.items.now = omega arith in
    on_err c.from_residual.result (AppendsPart start (g.W.Sink.written c.write_item.new.sink) whole)
    (c.in_err-line.ensures.part (items_text true (items_of (map g.T.Show.data_of (map g.T.Show.seen (drop (i + 1) c.args.items.now)))) ++ left) start whole
    (subst (λ t. Holds start now c.loop-value.line.items t whole) (next_due g.T.Show.seen g.T.Show.data_of c.loop-value.is_later c.args.items.now i c.value-item.result left l c.value-item.is)
    (c.loop-value.invariant.0 left start whole h)))

pub returns-in_err-push-clause-part : goal.returns-in_err-push-clause-part
returns-in_err-push-clause-part g c left start whole h =
    let now = g.W.Sink.written c.loop-value.sink in
    on_err c.from_residual-in_err-push.result (AppendsPart start now whole) (front start now c.loop-value.line.items _ whole (c.loop-value.invariant.0 left start whole h))
