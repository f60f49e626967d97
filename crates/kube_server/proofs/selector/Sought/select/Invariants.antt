use Rattle.std.proofs.Common.{◌≡◌, map, take, filter}
use Rattle.std.specs.Arc.{arc_value}
use Rattle.kube_server.specs.Numbers.{has_name}
use Rattle.kube_server.specs.Servers.{meta_of}
use Rattle.kube_server.specs.Stored.{name_of}
use Rattle.kube_server.proofs.selector.Sought.select.Given as goal

abbrev pub invariant-loop-object : goal.invariant-loop-object
invariant-loop-object l =
    map arc_value l.selected.items ≡ filter (λ o. has_name (name_of l.self) (meta_of o)) (map arc_value (take l.object-index l.objects))
