use Rattle.std.proofs.Common.{◌≡◌, ◌-◌, map, drop, length}
use Rattle.kube_server.specs.Connections.{first_named}
use Rattle.kube_server.specs.Servers.{meta_of}
use Rattle.kube_server.specs.Stored.{change_of, name_of}
use Rattle.kube_server.proofs.watching.first_named_from.Given as goal

abbrev pub invariant-loop-index : goal.invariant-loop-index
invariant-loop-index l =
    first_named meta_of (name_of l.name) l.index (drop l.index (map change_of l.log)) ≡ first_named meta_of (name_of l.name) l.from (drop l.from (map change_of l.log))

abbrev pub decreases-loop-index : goal.decreases-loop-index
decreases-loop-index l = length l.log - l.index
