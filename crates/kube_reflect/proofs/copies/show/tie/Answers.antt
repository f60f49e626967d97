use Rattle.kube_reflect.proofs.Turning.{admits, forks, merges}
use Rattle.kube_reflect.proofs.copies.show.tie.Goals as goal

pub reader-requires : goal.reader-requires
reader-requires g c = admits g.K.Resource.type_of g.K.Resource.meta_of

pub tell-requires : goal.tell-requires
tell-requires g c = forks g.K.Resource.type_of g.K.Resource.meta_of _ _

pub learn-requires-clause-rule : goal.learn-requires-clause-rule
learn-requires-clause-rule g c = merges g.K.Resource.type_of g.K.Resource.meta_of _ _ _ _
