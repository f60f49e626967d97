use Rattle.std.proofs.Common.{◌≡◌, ◌<◌, All, length}
use Rattle.rtrb.specs.Ring.{sent, known_free}
use Rattle.kube_reflect.specs.Ties.{home_of}
use Rattle.kube_reflect.specs.Hands.{IsNamed}
use Rattle.kube_reflect.proofs.copies.shared.make_lanes.Given as goal

abbrev pub invariant-loop-reader : goal.invariant-loop-reader
invariant-loop-reader g l =
    record {
      origin : l.origin ≡ l.fn.origin;
      givers : All (λ p. IsNamed (sent p) (home_of l.origin) × (0 < known_free p)) l.givers.items;
      places : All (λ p. p.home ≡ home_of l.origin) l.places.items;
      number : length l.places.items ≡ l._reader;
    }
