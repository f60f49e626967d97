use Rattle.std.proofs.Common.{◌≡◌, map, ◌++◌}
use Rattle.std.specs.Arc.{arc_value}
use Rattle.kube_server.proofs.objects.Objects.all.Given as goal

abbrev pub invariant-loop-object : goal.invariant-loop-object
invariant-loop-object l = map arc_value l.all.items ++ map arc_value l.object-iterator ≡ map arc_value l.initial.object-iterator
