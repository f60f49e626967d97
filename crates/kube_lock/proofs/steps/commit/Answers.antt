use Rattle.std.proofs.Common.{arith, refl}
use Rattle.kube_lock.proofs.Committing.{commits_at}
use Rattle.kube_lock.proofs.steps.commit.Goals as goal

pub fetch_add-requires : goal.fetch_add-requires
fetch_add-requires g c =
    let e = c.requires.entry in (
      c.requires.table.table,
      (let w = c.requires.table.words in omega arith),
      commits_at g.C.Kept.entries g.C.Kept.number g.C.Kept.opened g.C.Kept.legal (g.C.Kept.opened c.args.board.now.key.value) c.args.board.now.table_id.slots c.args.seat.now.id c.args.seat.now.me e.0 e.1 (g.C.Kept.number e.1) (g.C.Kept.opened e.0) c.requires.table.slots e.2 c.requires.holds e.4 refl e.5 e.3 e.6 e.7,
    )
