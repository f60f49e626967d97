use Rattle.std.proofs.Common.{◌≤◌, ◌+◌, ◌∙◌, ◌∷◌, [], length, length-append, sym, ap, subst, arith, if◌then◌else◌}
use Rattle.kube_sched.specs.Tables.{scheduled_in}
use Rattle.kube_sched.specs.Timetables.{stale_of}
use Rattle.kube_sched.proofs.Rows.{found-key}
use Rattle.kube_sched.proofs.Kept.{kept-stays, kept-new, mid-kept, mid-message, mid-waiting, mid-scheduled, mid-length, mid-rows, mid-later}
use Rattle.kube_sched.proofs.timetable.Timetable.set.Goals as goal

pub returns-then-stays-clause-scheduled : goal.returns-then-stays-clause-scheduled
returns-then-stays-clause-scheduled g c =
    let t = c.args.self.now in
    let eq = g.T.PartialEq.eq in
    let laws = g.met.T.Eq.laws in
    let k = c.requires.kept in
    let m = c.args.held.message in
    let e = found-key eq laws m c.in-Some._message.now t.table.entries.entries (sym c.in-Some.ensures.key) in
    kept-stays eq laws t k c.args.held c.args.run_at c.in-Some.place (c.in-Some._message.now, c.in-Some.entry.now) c.in-Some.ensures.entry e (sym c.stays.ensures ∙ c.if-stays.true)

pub add-requires-clause-kept : goal.add-requires-clause-kept
add-requires-clause-kept g c =
    let t = c.args.self.now in
    let eq = g.T.PartialEq.eq in
    let laws = g.met.T.Eq.laws in
    let k = c.requires.kept in
    let m = c.args.held.message in
    let e = found-key eq laws m c.in-Some._message.now t.table.entries.entries (sym c.in-Some.ensures.key) in
    record {
      parts = mid-kept eq laws t k c.args.held c.args.run_at c.in-Some.place (c.in-Some._message.now, c.in-Some.entry.now) c.in-Some.ensures.entry e (sym c.stays.ensures ∙ c.if-stays.false) c.take.new.self.entries.entries c.take.result c.take.ensures.taken c.take.new.self.numbers.keys c.take.ensures.indexed;
      room =
          record {
            entries = (let a = k.room.entries in let b = c.take.ensures.room in omega arith);
            numbers = (let a = k.room.numbers in let b = c.take.ensures.numbers_room in omega arith);
            heap = k.room.heap;
            waiting = (let a = k.room.waiting in let b = mid-rows eq laws t k c.args.held c.args.run_at c.in-Some.place (c.in-Some._message.now, c.in-Some.entry.now) c.in-Some.ensures.entry e (sym c.stays.ensures ∙ c.if-stays.false) c.take.new.self.entries.entries c.take.result c.take.ensures.taken in omega arith);
            next = k.room.next;
          };
    }

pub add-requires-clause-absent : goal.add-requires-clause-absent
add-requires-clause-absent g c =
    let t = c.args.self.now in
    let eq = g.T.PartialEq.eq in
    let laws = g.met.T.Eq.laws in
    let k = c.requires.kept in
    let m = c.args.held.message in
    let e = found-key eq laws m c.in-Some._message.now t.table.entries.entries (sym c.in-Some.ensures.key) in
    c.take.ensures.gone m (mid-message eq laws t k c.args.held c.args.run_at c.in-Some.place (c.in-Some._message.now, c.in-Some.entry.now) c.in-Some.ensures.entry e (sym c.stays.ensures ∙ c.if-stays.false) c.take.new.self.entries.entries c.take.result c.take.ensures.taken)

pub returns-else-stays-clause-waiting : goal.returns-else-stays-clause-waiting
returns-else-stays-clause-waiting g c =
    let t = c.args.self.now in
    let eq = g.T.PartialEq.eq in
    let laws = g.met.T.Eq.laws in
    let k = c.requires.kept in
    let m = c.args.held.message in
    let e = found-key eq laws m c.in-Some._message.now t.table.entries.entries (sym c.in-Some.ensures.key) in
    c.add.ensures.waiting ∙ mid-waiting eq laws t k c.args.held c.args.run_at c.in-Some.place (c.in-Some._message.now, c.in-Some.entry.now) c.in-Some.ensures.entry e (sym c.stays.ensures ∙ c.if-stays.false) c.take.new.self.entries.entries c.take.result c.take.ensures.taken

pub returns-else-stays-clause-scheduled : goal.returns-else-stays-clause-scheduled
returns-else-stays-clause-scheduled g c =
    let t = c.args.self.now in
    let eq = g.T.PartialEq.eq in
    let laws = g.met.T.Eq.laws in
    let k = c.requires.kept in
    let m = c.args.held.message in
    let e = found-key eq laws m c.in-Some._message.now t.table.entries.entries (sym c.in-Some.ensures.key) in
    c.add.ensures.scheduled ∙ sym (mid-scheduled eq laws t k c.args.held c.args.run_at c.in-Some.place (c.in-Some._message.now, c.in-Some.entry.now) c.in-Some.ensures.entry e (sym c.stays.ensures ∙ c.if-stays.false) c.take.new.self.entries.entries c.take.result c.take.ensures.taken)

pub returns-else-stays-clause-len : goal.returns-else-stays-clause-len
returns-else-stays-clause-len g c =
    let t = c.args.self.now in
    let eq = g.T.PartialEq.eq in
    let laws = g.met.T.Eq.laws in
    let k = c.requires.kept in
    let m = c.args.held.message in
    let e = found-key eq laws m c.in-Some._message.now t.table.entries.entries (sym c.in-Some.ensures.key) in
    let a = ap length c.add.ensures.scheduled in
    let b = length-append (scheduled_in c.take.new.self.entries.entries t.next) (c.args.held ∷ []) in
    let d = mid-length eq laws t k c.args.held c.args.run_at c.in-Some.place (c.in-Some._message.now, c.in-Some.entry.now) c.in-Some.ensures.entry e (sym c.stays.ensures ∙ c.if-stays.false) c.take.new.self.entries.entries c.take.result c.take.ensures.taken in
    omega arith

pub returns-else-stays-clause-stale : goal.returns-else-stays-clause-stale
returns-else-stays-clause-stale g c =
    let t = c.args.self.now in
    let eq = g.T.PartialEq.eq in
    let laws = g.met.T.Eq.laws in
    let k = c.requires.kept in
    let m = c.args.held.message in
    let e = found-key eq laws m c.in-Some._message.now t.table.entries.entries (sym c.in-Some.ensures.key) in
    let a = ap length c.add.ensures.scheduled in
    let b = length-append (scheduled_in c.take.new.self.entries.entries t.next) (c.args.held ∷ []) in
    let d = mid-length eq laws t k c.args.held c.args.run_at c.in-Some.place (c.in-Some._message.now, c.in-Some.entry.now) c.in-Some.ensures.entry e (sym c.stays.ensures ∙ c.if-stays.false) c.take.new.self.entries.entries c.take.result c.take.ensures.taken in
    let f = c.add.ensures.places in
    let l : stale_of c.add.new.self ≤ stale_of t + 1 = omega arith in
    subst (λ b. stale_of c.add.new.self ≤ stale_of t + (if b then 1 else 0)) (sym (mid-later eq laws t k c.args.held c.args.run_at c.in-Some.place (c.in-Some._message.now, c.in-Some.entry.now) c.in-Some.ensures.entry e (sym c.stays.ensures ∙ c.if-stays.false) c.take.new.self.entries.entries c.take.result c.take.ensures.taken)) l

pub returns-in-None-clause-scheduled : goal.returns-in-None-clause-scheduled
returns-in-None-clause-scheduled g c =
    c.add-in-None.ensures.scheduled
    ∙ sym (kept-new g.T.PartialEq.eq g.met.T.Eq.laws c.args.self.now c.requires.kept c.args.held c.args.run_at (sym c.in-None.ensures.value))
