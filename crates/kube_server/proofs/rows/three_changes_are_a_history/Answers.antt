use Rattle.kube_server.proofs.RowLemmas.{is_history}
use Rattle.kube_server.proofs.rows.three_changes_are_a_history.Goals as goal

pub returns : goal.returns
returns c = is_history
