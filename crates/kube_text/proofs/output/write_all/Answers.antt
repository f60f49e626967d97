use Rattle.std.proofs.Common.{arith, sym, take, drop, take-append-drop}
use Rattle.kube_model.proofs.Results.{on_err}
use Rattle.kube_text.proofs.Sinks.{written_then, within, still_written}
use Rattle.kube_text.specs.Part.{AppendsPart}
use Rattle.kube_text.proofs.output.write_all.Goals as goal

pub loop-at-preserved : goal.loop-at-preserved
loop-at-preserved g c =
    let before = c.loop-at.invariant in
    let step = c.in_ok-at.ensures in
    let later = step.cause.later in (
      within c.loop-at.at c.in_ok-at.field-0 c.args.bytes.now before.0 step.bound,
      written_then (g.W.Sink.written c.args.sink.now) (g.W.Sink.written c.loop-at.sink) (g.W.Sink.written c.write.new.self) c.loop-at.at c.in_ok-at.field-0 c.args.bytes.now before.1 step.bytes,
      omega arith,
    )

pub returns-in_err-at-clause-part : goal.returns-in_err-at-clause-part
returns-in_err-at-clause-part g c =
    let a = g.W.Sink.written c.args.sink.now in
    let b = g.W.Sink.written c.loop-at.sink in
    let d = g.W.Sink.written c.write.new.self in
    on_err c.from_residual.result (AppendsPart a d c.args.bytes.now)
    (record {
      front = take c.loop-at.at c.args.bytes.now;
      rest = drop c.loop-at.at c.args.bytes.now;
      split = sym (take-append-drop c.loop-at.at c.args.bytes.now);
      appended = still_written a b d (take c.loop-at.at c.args.bytes.now) c.loop-at.invariant.1 c.in_err-at.ensures.bytes;
    })
