use Rattle.std.proofs.Common.{◌≡◌, ◌++◌, drop}
use Rattle.kube_reflect.proofs.copies.show.load_at_last.Given as goal

abbrev pub invariant-loop-turn : goal.invariant-loop-turn
invariant-loop-turn g l =
    record {
      desk : l.inner.desk ≡ l.fn.inner.desk;
      all : drop l.inner.behind l.inner.log.items ++ l.queue.items ≡ drop l.fn.inner.behind l.fn.inner.log.items ++ l.fn.queue.items;
    }
