use Rattle.kube_history.proofs.Calls.{named-asks}
use Rattle.kube_history.proofs.laws.legal_answers_are_named.Goals as goal

pub returns : goal.returns
returns g c w h t fs xs es a l = named-asks w h t fs xs es a.answers l
