use Rattle.std.proofs.Common.{◌≡◌, ◌++◌, map}
use Rattle.std.specs.Vec.Iter.{into_iter_items}
use Rattle.kube_meta.specs.Keys.{reference_of}
use Rattle.kube_object.specs.Named.{named_type}
use Rattle.kube_turn.specs.Records.{finish_of}
use Rattle.kube_run.specs.GeneratedRun.{ended_well}
use Rattle.kube_run.proofs.generated.finishes.Given as goal

-- those that are made, and those of what is left, are all
abbrev pub invariant-loop-reference : goal.invariant-loop-reference
invariant-loop-reference l =
    map (finish_of named_type) l.finishes ++ map ended_well (map (reference_of named_type) (into_iter_items l.reference-iterator)) ≡ map ended_well (map (reference_of named_type) l.fn.running.items)
