use Rattle.std.proofs.Common.{length, ap, arith}
use Rattle.std.specs.BinaryHeap.{heap_items}
use Rattle.kube_sched.proofs.Timetables.{nothing-kept-by, nothing-scheduled-by, nothing-waits-by}
use Rattle.kube_sched.proofs.timetable.Timetable.new.Goals as goal

pub returns-clause-kept : goal.returns-clause-kept
returns-clause-kept g c =
    record {
      parts =
          nothing-kept-by g.T.PartialEq.eq c.new.result.entries.entries c.new.result.numbers.keys (heap_items c.new-2.result) c.new-3.result.items 0
          c.new.ensures.entries c.new-2.ensures.items c.new-3.ensures.items c.new.ensures.indexed c.new-2.ensures.heap_order;
      room =
          record {
            entries = omega arith;
            numbers = omega arith;
            heap = (let a = c.new-2.ensures.len in omega arith);
            waiting = (let a = ap length c.new.ensures.entries in omega arith);
            next = omega arith;
          };
    }

pub returns-clause-waiting : goal.returns-clause-waiting
returns-clause-waiting g c = nothing-waits-by c.new.result.entries.entries c.new-3.result.items c.new-3.ensures.items

pub returns-clause-scheduled : goal.returns-clause-scheduled
returns-clause-scheduled g c = nothing-scheduled-by c.new.result.entries.entries 0 c.new.ensures.entries

pub returns-clause-stale : goal.returns-clause-stale
returns-clause-stale g c = let a = ap length c.new-2.ensures.items in omega arith
