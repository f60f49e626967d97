use Rattle.kube_lease.proofs.RowLemmas.{both_entrants}
use Rattle.kube_lease.proofs.rows.candidates_are_entrants.Goals as goal

pub returns : goal.returns
returns c = both_entrants
