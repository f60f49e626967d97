use Rattle.std.proofs.Common.{◌≡◌, [], false, Some}
use Rattle.kube_lock.specs.Seats.{IsOf}
use Rattle.kube_lock.specs.Views.{with_ticket}
use Rattle.kube_lock.proofs.waiting.wait_turn.Given as goal

abbrev pub invariant-loop-turn : goal.invariant-loop-turn
invariant-loop-turn g l =
    record {
      table : IsOf l.board.table_id l.seat;
      drew : l.seat.me ≡ (with_ticket l.fn.seat.me.0 l.ticket, []);
      empty : l.seat.me.1 ≡ [];
      idle : l.seat.me.0.holds ≡ false;
      ticket : l.seat.me.0.ticket ≡ Some l.ticket;
    }
