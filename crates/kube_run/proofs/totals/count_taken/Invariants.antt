use Rattle.std.proofs.Common.{◌≡◌, ◌+◌, drop, length}
use Rattle.std.specs.List.{filter, filter_map}
use Rattle.kube_object.specs.Named.{named_type}
use Rattle.kube_turn.specs.Views.{taken_of}
use Rattle.kube_run.specs.GeneratedRun.{is_missing, references_in}
use Rattle.kube_run.proofs.totals.count_taken.Given as goal

-- those that were counted, and those of what is left, are all
abbrev pub invariant-loop-taken : goal.invariant-loop-taken
invariant-loop-taken l = record {
  started : l.started + length (references_in (filter_map (taken_of named_type) (drop l.taken-index l.all))) ≡ length (references_in (filter_map (taken_of named_type) l.all));
  missing : l.missing + length (filter is_missing (filter_map (taken_of named_type) (drop l.taken-index l.all))) ≡ length (filter is_missing (filter_map (taken_of named_type) l.all));
}
