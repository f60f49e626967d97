use Rattle.std.proofs.Common.{◌≡◌, map}
use Rattle.std.specs.List.{range_with_len}
use Rattle.std.specs.Arc.{arc_value}
use Rattle.kube_gen.specs.Generated.{object_at}
use Rattle.kube_gen.proofs.pages.objects.Given as goal

-- as far as the loop has come
abbrev pub invariant-loop-place : goal.invariant-loop-place
invariant-loop-place l = map arc_value l.objects.items ≡ map (object_at l.whose) (range_with_len l.start l.place)
