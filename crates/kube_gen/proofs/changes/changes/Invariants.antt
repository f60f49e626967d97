use Rattle.std.proofs.Common.{◌≡◌}
use Rattle.std.specs.Prelude.{flat_map}
use Rattle.std.specs.List.{range_with_len}
use Rattle.kube_api.specs.Sequences.{steps_of}
use Rattle.kube_gen.specs.Generated.{number_at, change_at}
use Rattle.kube_gen.proofs.changes.changes.Given as goal

-- as far as the loop has come
abbrev pub invariant-loop-place : goal.invariant-loop-place
invariant-loop-place l = (l.number ≡ number_at l.seed l.place) × (steps_of l.steps.items ≡ flat_map (change_at l.seed l.parents) (range_with_len 1 l.place))
