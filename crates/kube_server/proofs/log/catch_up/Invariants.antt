use Rattle.std.proofs.Common.{◌≡◌, ◌≤◌, ◌-◌, map, length}
use Rattle.kube_server.specs.History.{state_at}
use Rattle.kube_server.specs.Servers.{meta_of}
use Rattle.kube_server.specs.Stored.{change_of}
use Rattle.kube_server.proofs.log.catch_up.Given as goal

abbrev pub invariant-loop-applied : goal.invariant-loop-applied
invariant-loop-applied l = record {
  count : l.applied ≤ length l.entries;
  made : l.objects ≡ state_at meta_of (map change_of l.entries) l.applied;
}

abbrev pub decreases-loop-applied : goal.decreases-loop-applied
decreases-loop-applied l = length l.entries - l.applied
