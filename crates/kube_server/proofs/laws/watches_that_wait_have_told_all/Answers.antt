use Rattle.kube_server.proofs.NewestLemmas.{waiting, waiting-again}
use Rattle.kube_server.proofs.laws.watches_that_wait_have_told_all.Goals as goal

pub returns-clause-all : goal.returns-clause-all
returns-clause-all c = λ meta changes compacted acts small waits. waiting meta changes compacted acts small waits

pub returns-clause-again : goal.returns-clause-again
returns-clause-again c = λ meta changes compacted acts small waits. waiting-again meta changes compacted acts small waits
