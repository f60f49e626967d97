use Rattle.std.proofs.Common.{◌≡◌}
use Rattle.kube_reflect.proofs.copies.handle.Handle.enter.Given as goal

abbrev pub invariant-loop-turn : goal.invariant-loop-turn
invariant-loop-turn g l = l.self ≡ l.fn.self
