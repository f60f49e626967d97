use Rattle.std.proofs.Common.{◌++◌, true}
use Rattle.serde_json.specs.Written.{members_text}
use Rattle.kube_text.proofs.Lines.{member_more}
use Rattle.kube_text.proofs.pieces.write_member.Goals as goal

pub returns-clause-part : goal.returns-clause-part
returns-clause-part g c rest end start whole h =
    c.write_piece.ensures.part (members_text true rest ++ end) start whole
    (member_more start (g.W.Sink.written c.args.sink.now) c.args.line.items c.in_ok-line.line.items c.in_ok-line-2.line.items c.args.is_later c.args.name.now (g.T.Show.data_of (g.T.Show.seen c.args.value.now)) rest end whole
    c.in_ok-line.ensures c.in_ok-line-2.ensures h)
