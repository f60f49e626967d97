use Rattle.std.proofs.Common.{◌≡◌, take}
use Rattle.kube_reflect.specs.Views.{all_stored}
use Rattle.kube_reflect.proofs.stored.again.Given as goal

-- as far as the loop has come
abbrev pub invariant-loop-stored : goal.invariant-loop-stored
invariant-loop-stored g l = all_stored g.K.Resource.type_of l.copies.items ≡ all_stored g.K.Resource.type_of (take l.stored-index l.items)
