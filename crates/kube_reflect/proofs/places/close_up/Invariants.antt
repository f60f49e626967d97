use Rattle.std.proofs.Common.{◌≡◌, ◌++◌, map, take, drop}
use Rattle.kube_reflect.specs.Indexes.{closed_up}
use Rattle.kube_reflect.proofs.places.close_up.Given as goal

abbrev pub invariant-loop-i : goal.invariant-loop-i
invariant-loop-i l = l.places ≡ map (closed_up l.place) (take l.i l.fn.places) ++ drop l.i l.fn.places
