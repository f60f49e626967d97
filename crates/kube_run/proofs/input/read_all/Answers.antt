use Rattle.std.proofs.Common.{arith, length-append, length-take, take, drop, ◌++◌}
use Rattle.kube_run.proofs.Known.{taken_then, more_taken, length_grown}
use Rattle.kube_run.proofs.input.read_all.Goals as goal

pub returns-then-is_err-clause-taken : goal.returns-then-is_err-clause-taken
returns-then-is_err-clause-taken g c =
    let before = c.loop.invariant in
    let step = c.in-Ok.ensures in
    let room = c.min-room.ensures in
    let l = c.len.ensures in
    record {
      taken = c.loop.all.items ++ take c.in-Ok.count c.read.new.buf;
      consumed = taken_then (g.S.Source.left c.args.source.now) (g.S.Source.left c.loop.source) (g.S.Source.left c.read.new.self) c.loop.all.items (take c.in-Ok.count c.read.new.buf) before.0 step.bytes.0;
      within =
          let kept = c.read.auto.buf in
          let cut = length-take c.min-room.result c.loop.piece in
          let whole = length-append c.loop.all.items (take c.in-Ok.count c.read.new.buf) in
          omega (arith, kept, cut, whole, room, l, step.bound, before);
    }

pub loop-preserved : goal.loop-preserved
loop-preserved g c =
    let before = c.loop.invariant in
    let step = c.in-Ok.ensures in
    let room = c.min-room.ensures in
    let ok = c.if-is_err.ensures.negation in
    let grown = c.extend_from_slice.ensures.items in
    let longer = length_grown _ c.in-Ok.count c.loop.all.items c.read.new.buf (drop c.min-room.result c.loop.piece) c.extend_from_slice.new.self.items ok step.bound.0 grown in
    let len = c.len-in-loop.ensures in
    let some = c.if-count-eq0.false in
    let within = c.if-len-gt-LONGEST.false in
    let later = step.cause.later in (
      more_taken (g.S.Source.left c.args.source.now) (g.S.Source.left c.loop.source) (g.S.Source.left c.read.new.self) _ c.in-Ok.count c.loop.all.items c.read.new.buf (drop c.min-room.result c.loop.piece) c.extend_from_slice.new.self.items before.0 step.bytes.0 ok step.bound.0 grown,
      omega arith,
      omega arith,
      omega arith,
    )
