use Rattle.std.proofs.Common.{◌≡◌, ◌-◌}
use mathlib.Core.List.{IsPrefix}
use Rattle.kube_reflect.specs.Once.{head_of}
use Rattle.kube_reflect.proofs.copies.book.add_all.Given as goal

abbrev pub invariant-loop-mark : goal.invariant-loop-mark
invariant-loop-mark g l =
    record {
      head : l.head ≡ head_of l.mark.seen.book;
      all : l.all ≡ l.fn.all;
      book : l.mark.seen.book ≡ l.fn.mark.seen.book;
      begun : IsPrefix l.mark.seen.log l.all.seen.log;
    }

abbrev pub decreases-loop-mark : goal.decreases-loop-mark
decreases-loop-mark g l = l.all.len - l.mark.len
