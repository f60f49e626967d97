use Rattle.std.proofs.Common.{◌≡◌, ◌-◌, ◌∙◌, ◌∷◌, length, remove, sym, ap, subst, arith, OnSome}
use Rattle.std.specs.BinaryHeap.{heap_items}
use Rattle.std.proofs.lemmas.List.Sorted.{length_permutation}
use Rattle.kube_sched.specs.Tables.{IsKept as AreKept, waiting_in}
use Rattle.kube_sched.proofs.Kept.{kept-within, kept-here, kept-queued, kept-taken, kept-rest, kept-left, kept-others}
use Rattle.kube_sched.proofs.timetable.Timetable.take.Goals as goal

pub index-requires : goal.index-requires
index-requires g c = kept-within g.T.PartialEq.eq g.met.T.Eq.laws c.args.self.now c.requires.kept c.args.place c.requires.place

pub place_of-row-requires-clause-there : goal.place_of-row-requires-clause-there
place_of-row-requires-clause-there g c =
    kept-queued g.T.PartialEq.eq g.met.T.Eq.laws c.args.self.now c.requires.kept c.args.place c.index.result.now
    (kept-here g.T.PartialEq.eq g.met.T.Eq.laws c.args.self.now c.requires.kept c.args.place c.index.result.now c.requires.place c.index.ensures)

pub returns-clause-kept : goal.returns-clause-kept
returns-clause-kept g c =
    let t = c.args.self.now in
    let room = c.requires.kept.room in
    let here = (kept-here g.T.PartialEq.eq g.met.T.Eq.laws c.args.self.now c.requires.kept c.args.place c.index.result.now c.requires.place c.index.ensures) in
    let items : c.remove.new.self.items ≡ remove t.waiting.items c.args.place =
    subst (λ o. OnSome o (c.remove.new.self.items ≡ remove t.waiting.items c.args.place)) (c.remove.ensures.succeeds c.index.result.now (kept-within g.T.PartialEq.eq g.met.T.Eq.laws c.args.self.now c.requires.kept c.args.place c.requires.place)) c.remove.ensures.items in
    record {
      parts =
          subst (λ xs. AreKept g.T.PartialEq.eq c.take.new.self.entries.entries c.take.new.self.numbers.keys (heap_items t.heap) xs t.next) (sym items)
          (kept-rest g.T.PartialEq.eq g.met.T.Eq.laws t c.requires.kept c.args.place c.index.result.now c.place_of-row.result here c.place_of-row.ensures.place c.take.new.self.entries.entries c.take.result c.take.ensures.taken
          c.take.new.self.numbers.keys c.take.ensures.indexed);
      room =
          record {
            entries = (let a = room.entries in let b = c.take.ensures.room in omega arith);
            numbers = (let a = room.numbers in let b = c.take.ensures.numbers_room in omega arith);
            heap = room.heap;
            waiting = (let a = room.waiting in let b = length_permutation t.table.entries.entries (c.take.ensures.taken.row ∷ c.take.new.self.entries.entries) c.take.ensures.taken.moves in let d = c.remove.ensures.capacity in omega arith);
            next = room.next;
          };
    }

pub returns-clause-taken : goal.returns-clause-taken
returns-clause-taken g c =
    let t = c.args.self.now in
    let here = (kept-here g.T.PartialEq.eq g.met.T.Eq.laws c.args.self.now c.requires.kept c.args.place c.index.result.now c.requires.place c.index.ensures) in
    kept-taken g.T.PartialEq.eq g.met.T.Eq.laws t c.requires.kept c.args.place c.index.result.now c.place_of-row.result here c.place_of-row.ensures.place c.take.new.self.entries.entries c.take.result c.take.ensures.taken

pub returns-clause-waiting : goal.returns-clause-waiting
returns-clause-waiting g c =
    let t = c.args.self.now in
    let here = (kept-here g.T.PartialEq.eq g.met.T.Eq.laws c.args.self.now c.requires.kept c.args.place c.index.result.now c.requires.place c.index.ensures) in
    let items : c.remove.new.self.items ≡ remove t.waiting.items c.args.place =
    subst (λ o. OnSome o (c.remove.new.self.items ≡ remove t.waiting.items c.args.place)) (c.remove.ensures.succeeds c.index.result.now (kept-within g.T.PartialEq.eq g.met.T.Eq.laws c.args.self.now c.requires.kept c.args.place c.requires.place)) c.remove.ensures.items in
    ap (waiting_in c.take.new.self.entries.entries) items
    ∙ kept-left g.T.PartialEq.eq g.met.T.Eq.laws t c.requires.kept c.args.place c.index.result.now c.place_of-row.result here c.place_of-row.ensures.place c.take.new.self.entries.entries c.take.result c.take.ensures.taken

pub returns-clause-scheduled : goal.returns-clause-scheduled
returns-clause-scheduled g c =
    let t = c.args.self.now in
    let here = (kept-here g.T.PartialEq.eq g.met.T.Eq.laws c.args.self.now c.requires.kept c.args.place c.index.result.now c.requires.place c.index.ensures) in
    kept-others g.T.PartialEq.eq g.met.T.Eq.laws t c.requires.kept c.args.place c.index.result.now c.place_of-row.result here c.place_of-row.ensures.place c.take.new.self.entries.entries c.take.result c.take.ensures.taken

pub returns-clause-stale : goal.returns-clause-stale
returns-clause-stale g c =
    let t = c.args.self.now in
    let here = (kept-here g.T.PartialEq.eq g.met.T.Eq.laws c.args.self.now c.requires.kept c.args.place c.index.result.now c.requires.place c.index.ensures) in
    ap (λ xs. length (heap_items c.args.self.now.heap) - length xs)
    (kept-others g.T.PartialEq.eq g.met.T.Eq.laws t c.requires.kept c.args.place c.index.result.now c.place_of-row.result here c.place_of-row.ensures.place c.take.new.self.entries.entries c.take.result c.take.ensures.taken)
