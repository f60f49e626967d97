use Rattle.kube_server.proofs.RowLemmas.{gap_is_refused, gap_within_is_refused, doubled_is_refused, turned_is_refused, skipped_is_refused}
use Rattle.kube_server.proofs.rows.watches_with_gaps_are_refused.Goals as goal

pub returns-clause-first : goal.returns-clause-first
returns-clause-first c = gap_is_refused

pub returns-clause-between : goal.returns-clause-between
returns-clause-between c = gap_within_is_refused

pub returns-clause-doubled : goal.returns-clause-doubled
returns-clause-doubled c = doubled_is_refused

pub returns-clause-turned : goal.returns-clause-turned
returns-clause-turned c = turned_is_refused

pub returns-clause-passed : goal.returns-clause-passed
returns-clause-passed c = skipped_is_refused
