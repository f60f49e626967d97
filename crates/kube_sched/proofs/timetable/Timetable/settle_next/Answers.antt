use Rattle.std.proofs.Common.{◌∷◌, ◌∙◌, length, is_some, nat_eq, sym, ap, arith}
use Rattle.std.specs.Prelude.{position}
use Rattle.std.specs.List.{list_any}
use Rattle.std.specs.BinaryHeap.{heap_items}
use Rattle.std.proofs.lemmas.List.Sorted.{length_permutation}
use Rattle.indexmap.specs.IndexSet.{spare as spare_of}
use Rattle.kube_sched.proofs.Timetables.{none-due, none-listed, row-found, length-frozen}
use Rattle.kube_sched.proofs.Kept.{settled-room, settled-kept, settled-first, settled-late, settled-held, settled-length, stale-here}
use Rattle.kube_sched.proofs.timetable.Timetable.settle_next.Goals as goal

pub returns-in_default-clause-last : goal.returns-in_default-clause-last
returns-in_default-clause-last g c = λ _.
    let t = c.args.self.now in
    none-due g.T.PartialEq.eq g.met.T.Eq.laws t.table.entries.entries t.table.numbers.keys (heap_items t.heap) t.waiting.items t.next c.requires.kept.parts c.args.now c.in_default.ensures.none.1

pub push_back_reserved-requires : goal.push_back_reserved-requires
push_back_reserved-requires g c =
    let t = c.args.self.now in
    let eq = g.T.PartialEq.eq in
    let laws = g.met.T.Eq.laws in
    let k = c.requires.kept in
    let n = c.in-Some.due.number in
    let rest = heap_items c.pop_due.new.heap in
    let found = row-found t.table.entries.entries n c.in-Some-get_index_of.place (ap (position (nat_eq n)) (sym k.parts.indexed.numbered) ∙ sym c.get_index_of.ensures.index ∙ c.in-Some-get_index_of.is) in
    let a = settled-room eq laws t k (record { 0 = c.in-Some.due }) rest c.in-Some.ensures.taken c.in-Some-get_index_of.place found in
    let b = t.waiting.ok.0 in
    let d = k.room.waiting in
    omega arith

pub returns-in-Some-get_index_of-clause-kept : goal.returns-in-Some-get_index_of-clause-kept
returns-in-Some-get_index_of-clause-kept g c =
    let t = c.args.self.now in
    let eq = g.T.PartialEq.eq in
    let laws = g.met.T.Eq.laws in
    let k = c.requires.kept in
    let n = c.in-Some.due.number in
    let rest = heap_items c.pop_due.new.heap in
    let found = row-found t.table.entries.entries n c.in-Some-get_index_of.place (ap (position (nat_eq n)) (sym k.parts.indexed.numbered) ∙ sym c.get_index_of.ensures.index ∙ c.in-Some-get_index_of.is) in
    let marked = c.mark_waiting.ensures.marked in
    record {
      parts =
          settled-kept eq laws t k (record { 0 = c.in-Some.due }) rest c.in-Some.ensures.taken c.in-Some-get_index_of.place found c.mark_waiting.new.self.entries.entries marked
          c.push_back_reserved.new.self.items c.push_back_reserved.ensures.items c.mark_waiting.new.self.numbers.keys c.mark_waiting.ensures.indexed c.pop_due.ensures.heap;
      room =
          record {
            entries = (let a = k.room.entries in let b = c.mark_waiting.ensures.room in omega arith);
            numbers = (let a = k.room.numbers in let b = ap spare_of c.mark_waiting.ensures.numbers in omega arith);
            heap = (let a = k.room.heap in let b = c.in-Some.ensures.len in let d = c.pop_due.ensures.capacity in omega arith);
            waiting =
                (let a = k.room.waiting in
                let b = ap length marked.is in
                let d = length-frozen t.table.entries.entries c.in-Some-get_index_of.place marked.entry in
                let e = c.push_back_reserved.ensures.capacity in
                omega arith);
            next = k.room.next;
          };
    }

pub returns-in-Some-get_index_of-clause-first : goal.returns-in-Some-get_index_of-clause-first
returns-in-Some-get_index_of-clause-first g c =
    let t = c.args.self.now in
    let eq = g.T.PartialEq.eq in
    let laws = g.met.T.Eq.laws in
    let k = c.requires.kept in
    let n = c.in-Some.due.number in
    let rest = heap_items c.pop_due.new.heap in
    let found = row-found t.table.entries.entries n c.in-Some-get_index_of.place (ap (position (nat_eq n)) (sym k.parts.indexed.numbered) ∙ sym c.get_index_of.ensures.index ∙ c.in-Some-get_index_of.is) in
    settled-first eq laws t k (record { 0 = c.in-Some.due }) rest c.in-Some.ensures.taken c.in-Some-get_index_of.place found c.mark_waiting.new.self.entries.entries c.mark_waiting.ensures.marked
    c.push_back_reserved.new.self.items c.push_back_reserved.ensures.items c.in-Some.ensures.least c.args.now c.in-Some.ensures.due

pub returns-in-Some-get_index_of-clause-late : goal.returns-in-Some-get_index_of-clause-late
returns-in-Some-get_index_of-clause-late g c =
    let t = c.args.self.now in
    let eq = g.T.PartialEq.eq in
    let laws = g.met.T.Eq.laws in
    let k = c.requires.kept in
    let n = c.in-Some.due.number in
    let rest = heap_items c.pop_due.new.heap in
    let found = row-found t.table.entries.entries n c.in-Some-get_index_of.place (ap (position (nat_eq n)) (sym k.parts.indexed.numbered) ∙ sym c.get_index_of.ensures.index ∙ c.in-Some-get_index_of.is) in
    settled-late eq laws t k (record { 0 = c.in-Some.due }) rest c.in-Some.ensures.taken c.in-Some-get_index_of.place found c.mark_waiting.new.self.entries.entries c.mark_waiting.ensures.marked
    c.push_back_reserved.new.self.items c.push_back_reserved.ensures.items c.in-Some.ensures.least c.args.now c.in-Some.ensures.due

pub returns-in-Some-get_index_of-clause-held : goal.returns-in-Some-get_index_of-clause-held
returns-in-Some-get_index_of-clause-held g c =
    let t = c.args.self.now in
    let eq = g.T.PartialEq.eq in
    let laws = g.met.T.Eq.laws in
    let k = c.requires.kept in
    let n = c.in-Some.due.number in
    let rest = heap_items c.pop_due.new.heap in
    let found = row-found t.table.entries.entries n c.in-Some-get_index_of.place (ap (position (nat_eq n)) (sym k.parts.indexed.numbered) ∙ sym c.get_index_of.ensures.index ∙ c.in-Some-get_index_of.is) in
    settled-held eq laws t k (record { 0 = c.in-Some.due }) rest c.in-Some.ensures.taken c.in-Some-get_index_of.place found c.mark_waiting.new.self.entries.entries c.mark_waiting.ensures.marked
    c.push_back_reserved.new.self.items c.push_back_reserved.ensures.items

pub returns-in_default-get_index_of-clause-kept : goal.returns-in_default-get_index_of-clause-kept
returns-in_default-get_index_of-clause-kept g c =
    let t = c.args.self.now in
    let k = c.requires.kept in
    let n = c.in-Some.due.number in
    let gone = none-listed t.table.entries.entries n (ap (list_any (nat_eq n)) (sym k.parts.indexed.numbered) ∙ (sym c.get_index_of.ensures.found ∙ ap is_some c.in_default-get_index_of.is)) in
    record {
      parts = stale-here g.T.PartialEq.eq g.met.T.Eq.laws t k (record { 0 = c.in-Some.due }) (heap_items c.pop_due.new.heap) c.in-Some.ensures.taken gone c.pop_due.ensures.heap;
      room =
          record {
            entries = k.room.entries;
            numbers = k.room.numbers;
            heap = (let a = k.room.heap in let b = c.in-Some.ensures.len in let d = c.pop_due.ensures.capacity in omega arith);
            waiting = k.room.waiting;
            next = k.room.next;
          };
    }

pub returns-in-Some-get_index_of-clause-stale : goal.returns-in-Some-get_index_of-clause-stale
returns-in-Some-get_index_of-clause-stale g c =
    let t = c.args.self.now in
    let eq = g.T.PartialEq.eq in
    let laws = g.met.T.Eq.laws in
    let k = c.requires.kept in
    let n = c.in-Some.due.number in
    let rest = heap_items c.pop_due.new.heap in
    let found = row-found t.table.entries.entries n c.in-Some-get_index_of.place (ap (position (nat_eq n)) (sym k.parts.indexed.numbered) ∙ sym c.get_index_of.ensures.index ∙ c.in-Some-get_index_of.is) in
    let a = settled-length eq laws t k (record { 0 = c.in-Some.due }) rest c.in-Some.ensures.taken c.in-Some-get_index_of.place found c.mark_waiting.new.self.entries.entries c.mark_waiting.ensures.marked
    c.push_back_reserved.new.self.items c.push_back_reserved.ensures.items in
    let b = length_permutation (heap_items t.heap) (record { 0 = c.in-Some.due } ∷ rest) c.in-Some.ensures.taken in
    omega arith
