use Rattle.kube_history.proofs.Segments.{legal-append}
use Rattle.kube_history.proofs.Calls.{legal-left, legal-right}
use Rattle.kube_history.proofs.laws.legal_lists_join.Goals as goal

pub returns : goal.returns
returns g c core before es fs = ((λ l. (legal-left core before es fs l, legal-right core before es fs l)), (λ p. legal-append core before es fs p.0 p.1))
