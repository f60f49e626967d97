use Rattle.std.proofs.Common.{◌≡◌, ◌++◌, Ok, map}
use Rattle.kube_trigger.proofs.trigger.wait_each.Given as goal

-- as far as the loop has come
abbrev pub invariant-loop-one : goal.invariant-loop-one
invariant-loop-one g l = l.waiting.items ≡ l.fn.waiting.items ++ map Ok l.yielded
