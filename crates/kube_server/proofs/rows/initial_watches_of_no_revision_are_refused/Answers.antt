use Rattle.kube_server.proofs.RowLemmas.{short_is_refused, early_is_refused}
use Rattle.kube_server.proofs.rows.initial_watches_of_no_revision_are_refused.Goals as goal

pub returns-clause-short : goal.returns-clause-short
returns-clause-short c = short_is_refused

pub returns-clause-early : goal.returns-clause-early
returns-clause-early c = early_is_refused
