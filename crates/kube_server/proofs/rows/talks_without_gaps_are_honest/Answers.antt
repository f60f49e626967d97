use Rattle.kube_server.proofs.RowLemmas.{pages_are_honest, watch_is_honest, initial_watch_is_honest}
use Rattle.kube_server.proofs.rows.talks_without_gaps_are_honest.Goals as goal

pub returns-clause-pages : goal.returns-clause-pages
returns-clause-pages c = pages_are_honest

pub returns-clause-watch : goal.returns-clause-watch
returns-clause-watch c = watch_is_honest

pub returns-clause-initial : goal.returns-clause-initial
returns-clause-initial c = initial_watch_is_honest
