use Rattle.kube_watch.specs.Asking.{Said}
use Rattle.kube_streams.proofs.Pausing.{paused-in-order}
use Rattle.kube_streams.proofs.laws.stream_backoff_in_order.Goals as goal

pub returns : goal.returns
returns g c = λ a b ps p. paused-in-order g.B.Backoff.delay g.B.Backoff.delayed g.B.Backoff.restarted (Said g.S.EventStream.polls g.S.EventStream.told) a ps b p
