use Rattle.kube_model.proofs.Histories.{unfinished-append}
use Rattle.kube_history.proofs.FinishOrder.{finds-running}
use Rattle.kube_history.proofs.laws.finishes_one_after_another.Goals as goal

pub returns-clause-left : goal.returns-clause-left
returns-clause-left g c rs front rest = unfinished-append rs front rest

pub returns-clause-ran : goal.returns-clause-ran
returns-clause-ran g c h t front f rest v e = finds-running h t front f rest v e
