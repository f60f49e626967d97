use Rattle.std.proofs.Common.{◌≡◌, [], take}
use Rattle.std.specs.List.{fold}
use Rattle.kube_reflect.specs.Cached.{put_under}
use Rattle.kube_reflect.specs.Views.{all_stored}
use Rattle.kube_reflect.proofs.buffer.put_each.Given as goal

-- as far as the loop has come
abbrev pub invariant-loop-stored : goal.invariant-loop-stored
invariant-loop-stored g l = l.cache ≡ fold put_under [] (all_stored g.K.Resource.type_of (take l.stored-index l.items))
