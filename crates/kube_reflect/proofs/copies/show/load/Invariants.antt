use Rattle.std.proofs.Common.{◌≡◌, ◌++◌, length, drop}
use Rattle.kube_reflect.proofs.copies.show.load.Given as goal

abbrev pub invariant-loop-op : goal.invariant-loop-op
invariant-loop-op g l =
    record {
      desk : l.inner.desk ≡ l.fn.inner.desk;
      all : drop l.inner.behind l.inner.log.items ++ l.queue.items ≡ drop l.fn.inner.behind l.fn.inner.log.items ++ l.fn.queue.items;
    }

abbrev pub decreases-loop-op : goal.decreases-loop-op
decreases-loop-op g l = length l.queue.items
