-- Which table a seat is of, and what it holds.
use Rattle.std.specs.Prelude.{◌≡◌, [], false, Option, None}
use Rattle.atomic_table.specs.Seated.{TableId}
use Rattle.atomic_table.specs.declared.shared.Seat.{Seat}
use Rattle.kube_lock.specs.declared.view.View.{View}

-- it is of this table, which has three words and a slot
pub record IsOf {C E P : Type 0} (at : TableId) (seat : Seat (Option C) (View E P)) : Type 0 where
  pub table : seat.table_id ≡ at
  pub words : at.words ≡ 3
  pub slots : at.slots ≡ 1

-- it holds nothing, neither a ticket nor the slot
pub record IsIdle {C E P : Type 0} (seat : Seat (Option C) (View E P)) : Type 0 where
  pub empty : seat.me.1 ≡ []
  pub ticket : seat.me.0.ticket ≡ None
  pub holds : seat.me.0.holds ≡ false
