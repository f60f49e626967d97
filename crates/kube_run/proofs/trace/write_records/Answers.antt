use Rattle.std.proofs.Common.{arith}
use Rattle.kube_text.specs.Part.{AppendsPart}
use Rattle.kube_text.specs.TraceText.{lines_text}
use Rattle.kube_text.specs.TraceView.{seen_records}
use Rattle.kube_model.proofs.Results.{on_err}
use Rattle.kube_run.proofs.Records.{next_record, one_more, part_written}
use Rattle.kube_run.proofs.trace.write_records.Goals as goal

pub loop-turn-preserved : goal.loop-turn-preserved
loop-turn-preserved g c =
    let a = g.W.Sink.written c.args.sink.now in
    let b = g.W.Sink.written c.loop-turn.sink in
    let d = g.W.Sink.written c.write_record.new.sink in
    let r = c.index-records-turn.result in
    let left = next_record c.args.records.now c.loop-turn.turn r c.loop-turn-test.true c.index-records-turn.is in
    let before = c.loop-turn.invariant in
    let step = c.in_ok-write_record.ensures in
    let later = step.later in (
      one_more a b d c.loop-turn.turn c.args.records.now r before.0 left step.all,
      omega arith,
    )

pub returns-in_err-write_record-clause-part : goal.returns-in_err-write_record-clause-part
returns-in_err-write_record-clause-part g c =
    let a = g.W.Sink.written c.args.sink.now in
    let b = g.W.Sink.written c.loop-turn.sink in
    let d = g.W.Sink.written c.write_record.new.sink in
    let r = c.index-records-turn.result in
    let left = next_record c.args.records.now c.loop-turn.turn r c.loop-turn-test.true c.index-records-turn.is in
    let before = c.loop-turn.invariant in
    on_err c.from_residual.result (AppendsPart a d (lines_text (seen_records 0 c.args.records.now)))
    (part_written a b d c.loop-turn.turn c.args.records.now r before.0 left c.in_err-write_record.ensures.part)
