use Rattle.std.proofs.Common.{◌≡◌, map, take}
use Rattle.kube_server.specs.History.{state_of}
use Rattle.kube_server.specs.Servers.{meta_of}
use Rattle.kube_server.specs.Stored.{change_of}
use Rattle.kube_server.proofs.log.replayed.Given as goal

abbrev pub invariant-loop-entry : goal.invariant-loop-entry
invariant-loop-entry l = l.objects ≡ state_of meta_of (map change_of (take l.entry-index l.entries))
