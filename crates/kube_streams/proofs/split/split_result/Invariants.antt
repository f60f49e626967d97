use Rattle.std.proofs.Common.{◌≡◌, ◌++◌}
use Rattle.kube_streams.specs.Splits.{errors_of, items_of}
use Rattle.kube_streams.proofs.split.split_result.Given as goal

-- what was taken apart, and what is left, are all
abbrev pub invariant-loop-item : goal.invariant-loop-item
invariant-loop-item g l =
    record {
      items : l.oks.items ++ items_of l.item-iterator.rest.items ≡ items_of l.initial.item-iterator.rest.items;
      errors : l.errors.items ++ errors_of l.item-iterator.rest.items ≡ errors_of l.initial.item-iterator.rest.items;
    }
