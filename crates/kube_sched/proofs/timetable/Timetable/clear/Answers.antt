use Rattle.std.proofs.Common.{◌∙◌, map, length, sym, ap, arith}
use Rattle.std.specs.BinaryHeap.{heap_items}
use Rattle.kube_sched.specs.Tables.{number_of}
use Rattle.kube_sched.proofs.Timetables.{nothing-kept-by, nothing-scheduled-by}
use Rattle.kube_sched.proofs.timetable.Timetable.clear.Goals as goal

pub returns-clause-kept : goal.returns-clause-kept
returns-clause-kept g c =
    let room = c.requires.kept.room in
    record {
      parts =
          nothing-kept-by g.T.PartialEq.eq c.clear.new.self.entries c.clear-2.new.self.keys (heap_items c.clear-3.new.self) c.clear-4.new.self.items c.args.self.now.next
          c.clear.ensures.empty c.clear-3.ensures.items c.clear-4.ensures.items
          (record { numbered = c.clear-2.ensures.empty ∙ sym (ap (map number_of) c.clear.ensures.empty); apart = c.clear-2.ensures.unique; unique = c.clear.ensures.unique })
          c.clear-3.ensures.heap_order;
      room =
          record {
            entries = (let a = room.entries in let b = c.clear.ensures.capacity in omega arith);
            numbers = (let a = room.numbers in let b = c.clear-2.ensures.capacity in omega arith);
            heap = (let a = room.heap in let b = c.clear-3.ensures.len in let d = c.clear-3.ensures.capacity in omega arith);
            waiting = (let a = room.waiting in let b = ap length c.clear.ensures.empty in let d = c.clear-4.ensures.capacity in omega arith);
            next = room.next;
          };
    }

pub returns-clause-scheduled : goal.returns-clause-scheduled
returns-clause-scheduled g c = nothing-scheduled-by c.clear.new.self.entries c.args.self.now.next c.clear.ensures.empty
