use Rattle.std.proofs.Common.{◌≡◌, map, take}
use Rattle.kube_lease.specs.Staging.{entered}
use Rattle.kube_lease.proofs.play.enter.Given as goal

abbrev pub invariant-loop-entrant : goal.invariant-loop-entrant
invariant-loop-entrant l = l.all.items ≡ map entered (take l.entrant-index l.candidates)
