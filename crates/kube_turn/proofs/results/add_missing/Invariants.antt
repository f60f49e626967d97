use Rattle.std.proofs.Common.{◌≡◌, ◌++◌, map}
use Rattle.std.specs.List.{filter_map}
use Rattle.kube_turn.specs.Results.{came_of, missing}
use Rattle.kube_turn.proofs.results.add_missing.Given as goal

-- as far as the loop has come
abbrev pub invariant-loop-one : goal.invariant-loop-one
invariant-loop-one g l = map came_of l.results.items ≡ map came_of l.fn.results.items ++ filter_map (missing g.K.Resource.type_of) l.yielded
