use Rattle.std.proofs.Common.{arith}
use Rattle.kube_lock.proofs.Looking.{looks_at}
use Rattle.kube_lock.proofs.steps.tell.Goals as goal

pub load-requires : goal.load-requires
load-requires g c = (
  c.requires.table.table,
  (let w = c.requires.table.words in omega arith),
  looks_at g.C.Kept.entries g.C.Kept.number g.C.Kept.opened g.C.Kept.legal (g.C.Kept.opened c.args.board.now.key.value) c.args.board.now.table_id.slots c.args.seat.now.id c.args.seat.now.me c.requires.table.slots c.requires.idle.empty c.requires.idle.holds,
)
