use Rattle.kube_server.proofs.RowLemmas.{twice_is_refused, missing_is_refused, mixed_is_refused}
use Rattle.kube_server.proofs.rows.lists_of_no_revision_are_refused.Goals as goal

pub returns-clause-twice : goal.returns-clause-twice
returns-clause-twice c = twice_is_refused

pub returns-clause-missing : goal.returns-clause-missing
returns-clause-missing c = missing_is_refused

pub returns-clause-mixed : goal.returns-clause-mixed
returns-clause-mixed c = mixed_is_refused
