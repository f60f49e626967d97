use Rattle.std.proofs.Common.{sym}
use Rattle.std.specs.BinaryHeap.{heap_items}
use Rattle.kube_sched.proofs.Rows.{found-key}
use Rattle.kube_sched.proofs.Timetables.{waits-found, waits-absent}
use Rattle.kube_sched.proofs.timetable.Timetable.waits.Goals as goal

pub returns-in-Some : goal.returns-in-Some
returns-in-Some g c =
    let t = c.args.self.now in
    waits-found g.T.PartialEq.eq g.met.T.Eq.laws t.table.entries.entries t.table.numbers.keys (heap_items t.heap) t.waiting.items t.next c.requires.kept.parts c.args.message.now c.in-Some._place
    (c.in-Some._message.now, c.in-Some.entry.now) c.in-Some.ensures.entry
    (found-key g.T.PartialEq.eq g.met.T.Eq.laws c.args.message.now c.in-Some._message.now t.table.entries.entries (sym c.in-Some.ensures.key))

pub returns-in-None : goal.returns-in-None
returns-in-None g c =
    let t = c.args.self.now in
    sym (waits-absent g.T.PartialEq.eq g.met.T.Eq.laws t.table.entries.entries t.table.numbers.keys (heap_items t.heap) t.waiting.items t.next c.requires.kept.parts c.args.message.now (sym c.in-None.ensures.value))
