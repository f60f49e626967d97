use Rattle.std.proofs.Common.{◌≡◌, ◌≤◌, []}
use Rattle.std.specs.Prelude.{vec_len, vec_capacity}
use Rattle.kube_lock.specs.Seats.{IsOf}
use Rattle.kube_lock.specs.Views.{dealer}
use Rattle.kube_lock.specs.Passes.{dealt}
use Rattle.kube_lock.proofs.opening.deal.Given as goal

abbrev pub invariant-loop-number : goal.invariant-loop-number
invariant-loop-number g l =
    record {
      table : IsOf l.lock.table l.root;
      root : l.root.me ≡ (dealer l.lock.opening l.number, []);
      room : l.passes ≤ vec_capacity l.dealt;
      items : l.dealt.items ≡ dealt l.lock.table l.lock.opening l.number;
      len : vec_len l.dealt ≡ l.number;
    }
