use Rattle.std.proofs.Common.{◌≡◌, drop}
use Rattle.kube_reflect.specs.Lags.{raised_all}
use Rattle.kube_reflect.proofs.lags.raise_all.Given as goal

-- what those that follow make of them is what all make of them
abbrev pub invariant-loop-i : goal.invariant-loop-i
invariant-loop-i l = raised_all (drop l.i l.numbers) l.places ≡ raised_all l.numbers l.fn.places
