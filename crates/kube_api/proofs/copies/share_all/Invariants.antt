use Rattle.std.proofs.Common.{◌≡◌, take, map}
use Rattle.std.specs.Arc.{arc_value}
use Rattle.kube_api.proofs.copies.share_all.Given as goal

-- what is kept shares the objects so far
abbrev pub invariant-loop-object : goal.invariant-loop-object
invariant-loop-object g l = map arc_value l.all ≡ map arc_value (take l.object-index l.objects)
