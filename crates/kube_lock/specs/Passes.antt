-- Passes as contracts see them. E is the type of entries, P that of what was opened.
use Rattle.std.specs.Prelude.{◌≡◌, ℕ, zero, suc, List, [], ◌∷◌, ◌++◌, true, false, Option, Some, None}
use mathlib.Core.List.{IsPrefix}
use Rattle.atomic_table.specs.Seated.{TableId}
use Rattle.atomic_table.specs.Table.{Me}
use Rattle.kube_lock.specs.declared.view.View.{View}

-- a pass: the table of its lock, what was opened, its number, how many numbers were given where it keeps that, the beginning of the history that it has seen, and its own entries
pub record Passing (E P : Type 0) : Type 0 where
  pub table : TableId
  pub opening : Option P
  pub number : ℕ
  pub given : Option ℕ
  pub seen : List E
  pub own : List E

abbrev pub passing : {E P : Type 0} → TableId → ℕ → View E P → Passing E P
passing table number v = record { table = table; opening = v.opening; number = number; given = v.given; seen = v.seen; own = v.own }

-- a lock: its table, and what was opened
pub record Locking (P : Type 0) : Type 0 where
  pub table : TableId
  pub opening : P

-- the pass is one of this lock
pub record IsPassOf {E P : Type 0} (lock : Locking P) (pass : Passing E P) : Type 0 where
  pub here : pass.table ≡ lock.table
  pub opens : pass.opening ≡ Some lock.opening

-- a pass's seat holds neither a ticket nor the slot
pub record IsFree {C E P : Type 0} (me : Me (Option C) (View E P)) (number : ℕ) : Type 0 where
  pub empty : me.1 ≡ []
  pub ticket : me.0.ticket ≡ None
  pub holds : me.0.holds ≡ false
  pub has : me.0.number ≡ Some number

-- a turn's seat holds the slot, which is empty
pub record IsServed {C E P : Type 0} (me : Me (Option C) (View E P)) (number : ℕ) : Type 0 where
  pub empty : me.1 ≡ (0, None) ∷ []
  pub holds : me.0.holds ≡ true
  pub has : me.0.number ≡ Some number

module _ {E P : Type 0} (table : TableId) (opening : P) where
  -- a pass that has seen nothing
  abbrev pub fresh : ℕ → Passing E P
  fresh number = record { table = table; opening = Some opening; number = number; given = None; seen = []; own = [] }

  -- as many of them, numbered from 0
  abbrev pub dealt : ℕ → List (Passing E P)
  dealt zero = []
  dealt (suc n) = dealt n ++ fresh n ∷ []

  -- the passes of a new lock, of which the last keeps how many there are
  abbrev pub dealt_all : ℕ → List (Passing E P)
  dealt_all zero = []
  dealt_all (suc n) = dealt n ++ record (fresh n) { given = Some (suc n) } ∷ []

-- two passes have met: one list was seen by both, which begins with what either had seen; nothing else changed
pub record HaveMet {E P : Type 0} (a b one two : Passing E P) : Type 0 where
  pub seen : List E
  pub first : one ≡ record a { seen = seen }
  pub second : two ≡ record b { seen = seen }
  pub begins : IsPrefix a.seen seen
  pub begins_too : IsPrefix b.seen seen
