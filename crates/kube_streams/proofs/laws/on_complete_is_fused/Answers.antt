use Rattle.kube_watch.specs.Asking.{Said}
use Rattle.kube_streams.proofs.Completing.{only-ends}
use Rattle.kube_streams.proofs.laws.on_complete_is_fused.Goals as goal

pub returns : goal.returns
returns g c = λ a b ps no none p. only-ends g.F.FnOnce (Said g.S.EventStream.polls g.S.EventStream.told) a ps b no none p
