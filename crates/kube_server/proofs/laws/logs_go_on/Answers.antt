use Rattle.kube_server.proofs.LaterLemmas.{later_same, later_later}
use Rattle.kube_server.proofs.StateLemmas.{state-later}
use Rattle.kube_server.proofs.laws.logs_go_on.Goals as goal

pub returns-clause-same : goal.returns-clause-same
returns-clause-same g c = λ changes compacted. later_same changes compacted

pub returns-clause-twice : goal.returns-clause-twice
returns-clause-twice g c = λ a b d m n p first second. later_later a b d m n p first second

pub returns-clause-states : goal.returns-clause-states
returns-clause-states g c = λ meta a b m n revision later within. state-later meta a b m n revision later within
