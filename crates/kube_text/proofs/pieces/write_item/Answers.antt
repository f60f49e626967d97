use Rattle.kube_text.proofs.Lines.{item_more}
use Rattle.kube_text.proofs.pieces.write_item.Goals as goal

pub returns-clause-part : goal.returns-clause-part
returns-clause-part g c left start whole h =
    c.write_piece.ensures.part left start whole
    (item_more start (g.W.Sink.written c.args.sink.now) c.args.line.items c.in_ok-line.line.items c.in_ok-line-2.line.items c.args.is_later (g.T.Show.data_of (g.T.Show.seen c.args.value.now)) left whole
    c.in_ok-line.ensures c.in_ok-line-2.ensures h)
