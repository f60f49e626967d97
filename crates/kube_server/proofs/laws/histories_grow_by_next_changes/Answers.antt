use Rattle.kube_server.proofs.HistoryLemmas.{history-next, history-front}
use Rattle.kube_server.proofs.laws.histories_grow_by_next_changes.Goals as goal

pub returns-clause-next : goal.returns-clause-next
returns-clause-next g c = λ meta before after change h. history-next meta before after change h

pub returns-clause-front : goal.returns-clause-front
returns-clause-front g c = λ meta before after h. history-front meta before after h
