use Rattle.std.proofs.Common.{◌≡◌, inl, inr, length, ap, subst, ◌∙◌}
use Rattle.kube_object.specs.Named.{named_type}
use Rattle.kube_script.specs.SeenScript.{seen_script}
use Rattle.kube_text.specs.declared.refusal.Refusal.TheVariants as refusals
use Rattle.kube_turn.specs.Records.{records_of}
use Rattle.kube_control.specs.Errors.{IfRefused, IfUnnamed, records_before}
use Rattle.kube_step.specs.Errors.{refusal_of}
use Rattle.kube_run.specs.Played.{IsRefusedNext, IsUnnamedNext, refusal_at}
use Rattle.kube_run.proofs.Runs.{HasLines, ran-cut, ran-whole}
use Rattle.kube_run.proofs.program.run_script.Goals as goal

pub returns-in-Ok-clause-runs : goal.returns-in-Ok-clause-runs
returns-in-Ok-clause-runs g c =
    ran-whole (seen_script c.args.script) c.in-Ok.trace.records c.as_slice.result.now c.write_trace.result (g.W.Sink.written c.args.sink.now) (g.W.Sink.written c.write_trace.new.sink)
    c.as_slice.ensures c.in-Ok.ensures.lines c.in-Ok.ensures.played c.write_trace.ensures.tells

pub returns-in-Err-BadTurn-clause-runs : goal.returns-in-Err-BadTurn-clause-runs
returns-in-Err-BadTurn-clause-runs g c =
    let s = seen_script c.args.script in
    let held = c.in-Err-BadTurn.trace.records in
    let rs = records_of named_type held in
    let why = refusal_of c.in-Err-BadTurn.why in
    let lines : HasLines s held = subst (λ e. HasLines s (records_before e)) c.in-Err-BadTurn.field-0-is c.in-Err-BadTurn.ensures.lines_before in
    let next : (c.in-Err-BadTurn.turn ≡ length rs) × IsRefusedNext s rs why =
    subst (λ e. IfRefused e (λ turn cause. (turn ≡ length (records_of named_type (records_before e))) × IsRefusedNext s (records_of named_type (records_before e)) cause)) c.in-Err-BadTurn.field-0-is c.in-Err-BadTurn.ensures.refused in
    ran-cut s held c.as_slice-in-Err-BadTurn.result.now c.refused.result c.cut_off.result (g.W.Sink.written c.args.sink.now) (g.W.Sink.written c.cut_off.new.sink)
    c.as_slice-in-Err-BadTurn.ensures lines (inl (why, next.1, c.refused.ensures ∙ ap (λ n. refusal_at n why) next.0)) c.cut_off.ensures.tells

pub returns-in-Err-UnnamedObject-clause-runs : goal.returns-in-Err-UnnamedObject-clause-runs
returns-in-Err-UnnamedObject-clause-runs g c =
    let s = seen_script c.args.script in
    let held = c.in-Err-UnnamedObject.trace.records in
    let rs = records_of named_type held in
    let source = c.in-Err-UnnamedObject.source in
    let lines : HasLines s held = subst (λ e. HasLines s (records_before e)) c.in-Err-UnnamedObject.field-0-is c.in-Err-UnnamedObject.ensures.lines_before in
    let next : (c.in-Err-UnnamedObject.turn ≡ length rs) × IsUnnamedNext s rs source =
    subst (λ e. IfUnnamed e (λ turn cause. (turn ≡ length (records_of named_type (records_before e))) × IsUnnamedNext s (records_of named_type (records_before e)) cause)) c.in-Err-UnnamedObject.field-0-is c.in-Err-UnnamedObject.ensures.unnamed in
    ran-cut s held c.as_slice-in-Err-UnnamedObject.result.now (refusals.Unnamed source c.in-Err-UnnamedObject.turn) c.cut_off-in-Err-UnnamedObject.result (g.W.Sink.written c.args.sink.now) (g.W.Sink.written c.cut_off-in-Err-UnnamedObject.new.sink)
    c.as_slice-in-Err-UnnamedObject.ensures lines (inr (source, next.1, ap (λ n. refusals.Unnamed source n) next.0)) c.cut_off-in-Err-UnnamedObject.ensures.tells
