use Rattle.kube_watch.specs.Asking.{Said}
use Rattle.kube_streams.proofs.Given.{given-so-far}
use Rattle.kube_streams.proofs.laws.given_so_far.Goals as goal

pub returns : goal.returns
returns g c = λ a b ps p n. given-so-far (Said g.S.EventStream.polls g.S.EventStream.told) g.T.Adapt.takes g.T.Adapt.unnamed a b ps p n
