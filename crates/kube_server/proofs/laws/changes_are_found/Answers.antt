use Rattle.kube_server.proofs.HistoryLemmas.{same-equal}
use Rattle.kube_server.proofs.StateLemmas.{found-more, held-after}
use Rattle.kube_server.proofs.WholeLemmas.{same-itself}
use Rattle.kube_server.proofs.laws.changes_are_found.Goals as goal

pub returns-clause-state : goal.returns-clause-state
returns-clause-state g c = λ meta changes change key. found-more meta key changes change

pub returns-clause-held : goal.returns-clause-held
returns-clause-held g c = λ old new change key step. held-after old new change key step

pub returns-clause-same : goal.returns-clause-same
returns-clause-same g c = λ key. same-itself key

pub returns-clause-equal : goal.returns-clause-equal
returns-clause-equal g c = λ a b same. same-equal a b same
