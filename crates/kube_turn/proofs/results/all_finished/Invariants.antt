use Rattle.std.proofs.Common.{◌≡◌, map}
use Rattle.kube_turn.specs.Results.{came_of, finish_came}
use Rattle.kube_turn.proofs.results.all_finished.Given as goal

-- as far as the loop has come
abbrev pub invariant-loop-finish : goal.invariant-loop-finish
invariant-loop-finish g l = map came_of l.results.items ≡ map (finish_came g.K.Resource.type_of) l.yielded
