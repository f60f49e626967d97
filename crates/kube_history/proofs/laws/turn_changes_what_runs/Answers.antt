use Rattle.kube_model.proofs.Histories.{running-push}
use Rattle.kube_history.proofs.laws.turn_changes_what_runs.Goals as goal

pub returns : goal.returns
returns g c h s = running-push h s
