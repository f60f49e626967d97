use Rattle.std.proofs.Common.{arith}
use Rattle.kube_lock.proofs.Joining.{joins}
use Rattle.kube_lock.proofs.steps.join.Goals as goal

pub join_seat-requires : goal.join_seat-requires
join_seat-requires g c = (
  c.requires.table.table,
  c.requires.other.0.table,
  c.requires.other.1.empty,
  (let w = c.requires.table.words in omega arith),
  joins g.C.Kept.entries g.C.Kept.number g.C.Kept.opened g.C.Kept.legal (g.C.Kept.opened c.args.board.now.key.value) c.args.seat.now.id c.args.seat.now.me.0 c.args.other.id c.args.other.me.0 c.requires.idle.ticket c.requires.idle.holds c.requires.other.1.ticket c.requires.other.1.holds,
)
