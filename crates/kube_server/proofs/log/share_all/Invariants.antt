use Rattle.std.proofs.Common.{◌≡◌, map, take}
use Rattle.kube_server.specs.Stored.{change_of}
use Rattle.kube_server.proofs.log.share_all.Given as goal

abbrev pub invariant-loop-entry : goal.invariant-loop-entry
invariant-loop-entry l = map change_of l.all.items ≡ map change_of (take l.entry-index l.entries)
