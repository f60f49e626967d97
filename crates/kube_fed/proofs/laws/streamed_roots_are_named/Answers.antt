use Rattle.std.specs.Arc.{arc_value}
use Rattle.kube_watch.specs.Streams.{stream_answer}
use Rattle.kube_asks.specs.Roots.{has_name}
use Rattle.kube_fed.proofs.Determined.{named-too}
use Rattle.kube_fed.proofs.laws.streamed_roots_are_named.Goals as goal

pub returns : goal.returns
returns g c w is own now old new x p = named-too w (has_name g.K.Resource.meta_of) is own x (stream_answer arc_value p.answer) p.recorded
