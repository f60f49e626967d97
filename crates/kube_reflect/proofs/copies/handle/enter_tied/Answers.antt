use Rattle.std.proofs.Common.{refl}
use Rattle.kube_reflect.proofs.Turning.{turns}
use Rattle.kube_reflect.proofs.copies.handle.enter_tied.Goals as goal

pub enter_as-requires : goal.enter_as-requires
enter_as-requires g c x = turns g.K.Resource.type_of g.K.Resource.meta_of _ _ x x refl (λ t. t)
