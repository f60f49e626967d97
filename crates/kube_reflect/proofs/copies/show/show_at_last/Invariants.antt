use Rattle.std.proofs.Common.{◌≡◌, drop}
use Rattle.kube_reflect.specs.Behind.{IsBehind}
use Rattle.kube_reflect.proofs.copies.show.show_at_last.Given as goal

abbrev pub invariant-loop-turn : goal.invariant-loop-turn
invariant-loop-turn g l =
    record {
      origin : l.origin ≡ l.fn.origin;
      behind : IsBehind l.inner.desk.shown.value (drop l.inner.behind l.inner.log.items) l.origin;
    }
