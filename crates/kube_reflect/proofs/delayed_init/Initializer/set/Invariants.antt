use Rattle.std.proofs.Common.{◌<◌}
use Rattle.rtrb.specs.Ring.{sent, known_free}
use Rattle.kube_reflect.specs.Fates.{IsNamed}
use Rattle.kube_reflect.proofs.delayed_init.Initializer.set.Given as goal

abbrev pub invariant-loop-turn : goal.invariant-loop-turn
invariant-loop-turn g l =
    record {
      named : IsNamed (sent l.ring) l.seen.book;
      room : 0 < known_free l.ring;
    }
