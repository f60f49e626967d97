use Rattle.std.proofs.Common.{arith}
use Rattle.kube_lock.proofs.Splitting.{copies}
use Rattle.kube_lock.proofs.steps.split_copy.Goals as goal

pub split_seat-requires : goal.split_seat-requires
split_seat-requires g c = (
  c.requires.table.table,
  (let w = c.requires.table.words in omega arith),
  copies g.C.Kept.entries g.C.Kept.number g.C.Kept.opened g.C.Kept.legal (g.C.Kept.opened c.args.board.now.key.value) c.args.seat.now.id c.args.seat.now.me.0,
)
