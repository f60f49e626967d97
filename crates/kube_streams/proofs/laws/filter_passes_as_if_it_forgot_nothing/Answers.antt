use Rattle.kube_streams.proofs.Forgetting.{passed-without-forgetting}
use Rattle.kube_streams.proofs.laws.filter_passes_as_if_it_forgot_nothing.Goals as goal

pub returns : goal.returns
returns g c = λ from f h js r p. passed-without-forgetting g.P.Predicate.gives g.K.Resource.meta_of from f js h r p
