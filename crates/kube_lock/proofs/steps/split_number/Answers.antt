use Rattle.std.proofs.Common.{arith}
use Rattle.kube_lock.proofs.Splitting.{numbers}
use Rattle.kube_lock.proofs.steps.split_number.Goals as goal

pub split_seat-requires : goal.split_seat-requires
split_seat-requires g c =
    let e = c.requires.count in (
      c.requires.table.table,
      (let w = c.requires.table.words in omega arith),
      numbers g.C.Kept.entries g.C.Kept.number g.C.Kept.opened g.C.Kept.legal (g.C.Kept.opened c.args.board.now.key.value) c.args.seat.now.id c.args.seat.now.me.0 e.0 e.1 e.2,
    )
