use Rattle.std.proofs.Common.{arith, refl}
use Rattle.kube_lock.proofs.Releasing.{releases_at}
use Rattle.kube_lock.proofs.steps.release.Goals as goal

pub fetch_add-requires : goal.fetch_add-requires
fetch_add-requires g c =
    let e = c.requires.value in (
      c.requires.table.table,
      (let w = c.requires.table.words in omega arith),
      releases_at g.C.Kept.entries g.C.Kept.number g.C.Kept.opened g.C.Kept.legal (g.C.Kept.opened c.args.board.now.key.value) c.args.board.now.table_id.slots c.args.seat.now.id c.args.seat.now.me e.0 (g.C.Kept.opened e.0) c.requires.table.slots e.1 c.requires.holds e.3 e.2 refl,
    )
