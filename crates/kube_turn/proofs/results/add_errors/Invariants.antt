use Rattle.std.proofs.Common.{◌≡◌, ◌++◌, map}
use Rattle.std.specs.List.{filter_map}
use Rattle.std.specs.Option.{option_map}
use Rattle.kube_turn.specs.Results.{came_of, Queue}
use Rattle.kube_turn.proofs.results.add_errors.Given as goal

-- as far as the loop has come
abbrev pub invariant-loop-exchange : goal.invariant-loop-exchange
invariant-loop-exchange g l = map came_of l.results.items ≡ map came_of l.fn.results.items ++ filter_map (λ x. option_map Queue x.error) l.yielded
