use Rattle.std.proofs.Common.{◌++◌, sym, ap, ◌∙◌, append_assoc}
use Rattle.kube_text.specs.Refusals.{refusal_text}
use Rattle.kube_text.specs.Part.{AppendsPart}
use Rattle.kube_text.specs.TraceText.{lines_text}
use Rattle.kube_text.specs.TraceView.{seen_records}
use Rattle.kube_model.proofs.Results.{on_err}
use Rattle.kube_text.proofs.Sinks.{both_written}
use Rattle.kube_run.proofs.trace.write_refused.Goals as goal

pub returns-in_err-write_records-clause-part : goal.returns-in_err-write_records-clause-part
returns-in_err-write_records-clause-part g c =
    let p = c.in_err-write_records.ensures.part in
    let last = refusal_text c.args.refusal.now in
    on_err c.from_residual.result (AppendsPart (g.W.Sink.written c.args.sink.now) (g.W.Sink.written c.write_records.new.sink) (lines_text (seen_records 0 c.args.records.now) ++ last))
    (record { front = p.front; rest = p.rest ++ last; split = ap (λ text. text ++ last) p.split ∙ append_assoc p.front p.rest last; appended = p.appended })

pub returns-in_err-write_refusal-clause-part : goal.returns-in_err-write_refusal-clause-part
returns-in_err-write_refusal-clause-part g c =
    let a = g.W.Sink.written c.args.sink.now in
    let b = g.W.Sink.written c.write_records.new.sink in
    let d = g.W.Sink.written c.write_refusal.new.sink in
    let lines = lines_text (seen_records 0 c.args.records.now) in
    let p = c.in_err-write_refusal.ensures.part in
    on_err c.from_residual-in_err-write_refusal.result (AppendsPart a d (lines ++ refusal_text c.args.refusal.now))
    (record {
      front = lines ++ p.front;
      rest = p.rest;
      split = ap (λ text. lines ++ text) p.split ∙ sym (append_assoc lines p.front p.rest);
      appended = both_written a b d lines p.front c.in_ok-write_records.ensures.all p.appended;
    })
