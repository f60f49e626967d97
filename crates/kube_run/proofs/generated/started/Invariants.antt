use Rattle.std.proofs.Common.{◌≡◌, ◌++◌, map}
use Rattle.std.specs.List.{filter_map}
use Rattle.std.specs.Vec.Iter.{into_iter_items}
use Rattle.kube_meta.specs.Keys.{reference_of}
use Rattle.kube_object.specs.Named.{named_type}
use Rattle.kube_turn.specs.Views.{taken_of}
use Rattle.kube_run.specs.GeneratedRun.{references_in}
use Rattle.kube_run.proofs.generated.started.Given as goal

-- those that were found, and those of what is left, are all
abbrev pub invariant-loop-taken : goal.invariant-loop-taken
invariant-loop-taken l =
    map (reference_of named_type) l.started.items ++ references_in (filter_map (taken_of named_type) (into_iter_items l.taken-iterator)) ≡ references_in (filter_map (taken_of named_type) l.fn.all)
