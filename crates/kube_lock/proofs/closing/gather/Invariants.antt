use Rattle.std.proofs.Common.{◌≡◌, List, ◌++◌, length}
use Rattle.std.specs.List.{AllByRecursion}
use Rattle.kube_lock.specs.Seats.{IsOf, IsIdle}
use Rattle.kube_lock.specs.Passes.{Passing, IsPassOf}
use Rattle.kube_lock.specs.Whole.{Covers}
use Rattle.kube_lock.proofs.closing.gather.Given as goal

abbrev pub invariant-loop-other : goal.invariant-loop-other
invariant-loop-other g l =
    record {
      table : IsOf l.lock.table l.seat;
      idle : IsIdle l.seat;
      number : l.seat.me.0.number ≡ l.fn.seat.me.0.number;
      opening : l.seat.me.0.opening ≡ l.fn.seat.me.0.opening;
      passes : AllByRecursion (IsPassOf l.lock) l.passes.items;
      keeps : (p : Passing g.row.C-Entry.Denot g.row.C-Opening.Denot) → Covers g.C.Kept.number g.C.Kept.legal l.fn.seat.me.0 p → Covers g.C.Kept.number g.C.Kept.legal l.seat.me.0 p;
      covers : (rest : List (Passing g.row.C-Entry.Denot g.row.C-Opening.Denot)) × (l.fn.passes.items ≡ l.passes.items ++ rest) × AllByRecursion (Covers g.C.Kept.number g.C.Kept.legal l.seat.me.0) rest;
    }

abbrev pub decreases-loop-other : goal.decreases-loop-other
decreases-loop-other g l = length l.passes.items
