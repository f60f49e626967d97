use Rattle.std.proofs.Common.{arith}
use Rattle.kube_lock.proofs.Drawing.{draws_at}
use Rattle.kube_lock.proofs.Lists.{the_some}
use Rattle.kube_lock.proofs.steps.draw.Goals as goal

pub fetch_add-requires : goal.fetch_add-requires
fetch_add-requires g c =
    let n = the_some c.args.seat.now.me.0.number c.requires.number in (
      c.requires.table.table,
      (let w = c.requires.table.words in omega arith),
      draws_at g.C.Kept.entries g.C.Kept.number g.C.Kept.opened g.C.Kept.legal (g.C.Kept.opened c.args.board.now.key.value) c.args.board.now.table_id.slots c.args.seat.now.id c.args.seat.now.me n.0 c.requires.table.slots c.requires.idle.empty n.1 c.requires.idle.ticket c.requires.idle.holds,
    )
