use Rattle.std.proofs.Common.{◌≡◌, ◌+◌, ◌∙◌, ◌∷◌, [], false, is_err, length, length-append, refl, sym, ap, subst, arith, rules}
use Rattle.std.specs.BinaryHeap.{heap_items}
use Rattle.kube_sched.specs.declared.table.Entry.{Entry}
use Rattle.kube_sched.specs.Tables.{IsIndexed, IsKept as AreKept, waiting_in, scheduled_in}
use Rattle.kube_sched.proofs.Indexing.{on-ok}
use Rattle.kube_sched.proofs.Timetables.{more-kept, more-waiting, more-scheduled}
use Rattle.kube_sched.proofs.timetable.Timetable.add.Goals as goal

pub returns-clause-kept : goal.returns-clause-kept
returns-clause-kept g c =
    let t = c.args.self.now in
    let eq = g.T.PartialEq.eq in
    let e : Entry = record { time = c.args.held.time; number = c.args.self.now.next; is_waiting = false } in
    let ok : is_err c.push.result ≡ false = search rules in
    let room = c.requires.kept.room in
    record {
      parts =
          subst (λ xs. AreKept eq xs c.add.new.self.numbers.keys (heap_items c.push.new.self) t.waiting.items (t.next + 1)) (sym c.add.ensures.entries)
          (more-kept eq g.met.T.Eq.laws t.table.entries.entries t.table.numbers.keys (heap_items t.heap) t.waiting.items t.next c.requires.kept.parts c.args.held.message e c.requires.absent refl refl
          c.add.new.self.numbers.keys (heap_items c.push.new.self) (subst (λ xs. IsIndexed eq xs c.add.new.self.numbers.keys) c.add.ensures.entries c.add.ensures.indexed)
          (on-ok c.push.result _ ok c.push.ensures.permutation) (on-ok c.push.result _ ok c.push.ensures.heap_order c.requires.kept.parts.ordered));
      room =
          record {
            entries = (let a = room.entries in let b = c.add.ensures.room in let d = c.requires.room in omega arith);
            numbers = (let a = room.numbers in let b = c.add.ensures.numbers_room in let d = c.requires.room in omega arith);
            heap = (let a = room.heap in let b = on-ok c.push.result _ ok c.push.ensures.len in let f = c.push.ensures.capacity in let d = c.requires.room in omega arith);
            waiting = (let a = room.waiting in let b = ap length c.add.ensures.entries in let f = length-append t.table.entries.entries ((c.args.held.message, e) ∷ []) in let d = c.requires.room in omega arith);
            next = (let a = room.next in let d = c.requires.room in omega arith);
          };
    }

pub returns-clause-waiting : goal.returns-clause-waiting
returns-clause-waiting g c =
    let t = c.args.self.now in
    let e : Entry = record { time = c.args.held.time; number = c.args.self.now.next; is_waiting = false } in
    ap (λ xs. waiting_in xs t.waiting.items) c.add.ensures.entries
    ∙ more-waiting g.T.PartialEq.eq g.met.T.Eq.laws t.table.entries.entries t.table.numbers.keys (heap_items t.heap) t.waiting.items t.next c.requires.kept.parts c.args.held.message e c.requires.absent refl refl

pub returns-clause-scheduled : goal.returns-clause-scheduled
returns-clause-scheduled g c =
    let t = c.args.self.now in
    let e : Entry = record { time = c.args.held.time; number = c.args.self.now.next; is_waiting = false } in
    ap (λ xs. scheduled_in xs (t.next + 1)) c.add.ensures.entries
    ∙ more-scheduled g.T.PartialEq.eq g.met.T.Eq.laws t.table.entries.entries t.table.numbers.keys (heap_items t.heap) t.waiting.items t.next c.requires.kept.parts c.args.held.message e c.requires.absent refl refl
