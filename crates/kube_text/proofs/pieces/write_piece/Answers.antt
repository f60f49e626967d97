use Rattle.std.proofs.Common.{subst}
use Rattle.kube_text.specs.Part.{AppendsPart}
use Rattle.std.specs.Io.KnownBytes.{Appends}
use Rattle.kube_text.proofs.Lines.{gone_too, part_gone}
use Rattle.kube_model.proofs.Results.{on_err}
use Rattle.kube_text.proofs.pieces.write_piece.Goals as goal

pub returns-in_err-write_all-clause-part : goal.returns-in_err-write_all-clause-part
returns-in_err-write_all-clause-part g c left start whole h =
    let a = g.W.Sink.written c.args.sink.now in
    let b = g.W.Sink.written c.write_all.new.sink in
    on_err c.from_residual.result (AppendsPart start b whole)
    (part_gone start a b c.args.line.items left whole (subst (AppendsPart a b) c.deref.ensures.value c.in_err-write_all.ensures.part) h)

pub returns-clause-adds : goal.returns-clause-adds
returns-clause-adds g c left start whole h =
    let a = g.W.Sink.written c.args.sink.now in
    let b = g.W.Sink.written c.write_all.new.sink in
    rw c.clear.ensures.items
    (gone_too start a b c.args.line.items left whole (subst (Appends a b) c.deref.ensures.value c.in_ok-write_all.ensures.all) h)
