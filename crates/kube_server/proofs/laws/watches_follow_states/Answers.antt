use Rattle.kube_server.proofs.TalkLemmas.{between}
use Rattle.kube_server.proofs.ReaderLemmas.{states-selected, Follow-states}
use Rattle.kube_server.proofs.laws.watches_follow_states.Goals as goal

pub returns-clause-tells : goal.returns-clause-tells
returns-clause-tells g c = λ meta selects history s from events to known f. between meta selects history s from events to known f

pub returns-clause-brings : goal.returns-clause-brings
returns-clause-brings g c = λ meta selects history s from events to is by f. Follow-states meta selects history s from to events is by f

pub returns-clause-changes : goal.returns-clause-changes
returns-clause-changes g c = λ meta selects history s from to is by rises. states-selected meta selects history s from to is by rises
