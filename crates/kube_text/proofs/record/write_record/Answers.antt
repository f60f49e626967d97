use Rattle.std.proofs.Common.{◌++◌, ◌∷◌, [], false, subst}
use Rattle.std.specs.Io.KnownBytes.{Appends}
use Rattle.serde_json.specs.Data.{no_members}
use Rattle.serde_json.specs.Written.{members_text}
use Rattle.kube_text.specs.Part.{AppendsPart}
use Rattle.kube_text.specs.TraceText.{line_data, line_members, line_text}
use Rattle.kube_text.specs.TraceView.{seen_record}
use Rattle.kube_text.proofs.Lines.{begun, front, gone_too, more, part_gone, whole_gone}
use Rattle.kube_model.proofs.Results.{on_err}
use Rattle.kube_text.proofs.record.write_record.Goals as goal

pub returns-in_err-line-2-clause-part : goal.returns-in_err-line-2-clause-part
unfolding line_data
returns-in_err-line-2-clause-part g c =
    let l = seen_record c.args.turn c.args.«record».now in
    let a = g.W.Sink.written c.args.sink.now in
    on_err c.from_residual-in_err-line-2.result (AppendsPart a (g.W.Sink.written c.write_members.new.sink) (line_text l))
    (c.in_err-line-2.ensures.part no_members (10 ∷ []) a (line_text l)
    (begun a c.in_ok-line.line.items (members_text false (line_members l no_members) ++ 10 ∷ []) c.in_ok-line.ensures.items))

pub returns-in_err-extend_from_slice-clause-part : goal.returns-in_err-extend_from_slice-clause-part
unfolding line_data
returns-in_err-extend_from_slice-clause-part g c =
    let l = seen_record c.args.turn c.args.«record».now in
    let a = g.W.Sink.written c.args.sink.now in
    let b = g.W.Sink.written c.write_members.new.sink in
    on_err c.from_residual-in_err-extend_from_slice.result (AppendsPart a b (line_text l))
    (front a b c.in_ok-line-2.line.items _ (line_text l)
    (c.in_ok-line-2.ensures.adds no_members (10 ∷ []) a (line_text l)
    (begun a c.in_ok-line.line.items (members_text false (line_members l no_members) ++ 10 ∷ []) c.in_ok-line.ensures.items)))

pub returns-in_err-write_all-clause-part : goal.returns-in_err-write_all-clause-part
unfolding line_data
returns-in_err-write_all-clause-part g c =
    let l = seen_record c.args.turn c.args.«record».now in
    let a = g.W.Sink.written c.args.sink.now in
    let b = g.W.Sink.written c.write_members.new.sink in
    let d = g.W.Sink.written c.write_all.new.sink in
    on_err c.from_residual-in_err-write_all.result (AppendsPart a d (line_text l))
    (part_gone a b d c.extend_from_slice.new.self.items [] (line_text l) (subst (AppendsPart b d) c.deref.ensures.value c.in_err-write_all.ensures.part)
    (more a b c.in_ok-line-2.line.items c.extend_from_slice.new.self.items (125 ∷ 10 ∷ []) [] (line_text l) c.in_ok-extend_from_slice.ensures.items
    (c.in_ok-line-2.ensures.adds no_members (10 ∷ []) a (line_text l)
    (begun a c.in_ok-line.line.items (members_text false (line_members l no_members) ++ 10 ∷ []) c.in_ok-line.ensures.items))))

pub returns-clause-all : goal.returns-clause-all
unfolding line_data
returns-clause-all g c =
    let l = seen_record c.args.turn c.args.«record».now in
    let a = g.W.Sink.written c.args.sink.now in
    let b = g.W.Sink.written c.write_members.new.sink in
    let d = g.W.Sink.written c.write_all.new.sink in
    whole_gone a d (line_text l)
    (gone_too a b d c.extend_from_slice.new.self.items [] (line_text l) (subst (Appends b d) c.deref.ensures.value c.in_ok-write_all.ensures.all)
    (more a b c.in_ok-line-2.line.items c.extend_from_slice.new.self.items (125 ∷ 10 ∷ []) [] (line_text l) c.in_ok-extend_from_slice.ensures.items
    (c.in_ok-line-2.ensures.adds no_members (10 ∷ []) a (line_text l)
    (begun a c.in_ok-line.line.items (members_text false (line_members l no_members) ++ 10 ∷ []) c.in_ok-line.ensures.items))))
