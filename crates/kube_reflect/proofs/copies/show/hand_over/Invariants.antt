use Rattle.std.proofs.Common.{◌≡◌, ◌<◌, All}
use Rattle.left_right.specs.Sides.{view}
use Rattle.rtrb.specs.Ring.{sent, known_free}
use Rattle.kube_reflect.specs.Ties.{IsTied, home_of}
use Rattle.kube_reflect.specs.Hands.{IsNamed}
use Rattle.kube_reflect.proofs.copies.show.hand_over.Given as goal

abbrev pub invariant-loop-lane : goal.invariant-loop-lane
invariant-loop-lane g l =
    record {
      tied : IsTied (view l.inner.desk.place).at (home_of l.origin);
      lanes : All (λ p. IsNamed (sent p) (home_of l.origin) × (0 < known_free p)) l.lanes.items;
      origin : l.origin ≡ l.fn.origin;
      shown : l.inner.desk.shown ≡ l.fn.inner.desk.shown;
      pending : (l.inner.log ≡ l.fn.inner.log) × (l.inner.behind ≡ l.fn.inner.behind);
    }
