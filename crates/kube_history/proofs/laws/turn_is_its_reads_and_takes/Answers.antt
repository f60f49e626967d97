use Rattle.std.proofs.Common.{refl}
use Rattle.kube_history.proofs.TurnCalls.{calls-of}
use Rattle.kube_history.proofs.laws.turn_is_its_reads_and_takes.Goals as goal

pub returns : goal.returns
returns g c w policies h t m k = calls-of w h t m.1 m.0.finished m.0.exchanges policies m.0 refl refl k
