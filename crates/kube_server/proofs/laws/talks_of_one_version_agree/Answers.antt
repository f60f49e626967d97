use Rattle.kube_server.proofs.TalkLemmas.{lists_agree, watches_agree}
use Rattle.kube_server.proofs.laws.talks_of_one_version_agree.Goals as goal

pub returns-clause-lists : goal.returns-clause-lists
returns-clause-lists g c = λ meta selects history s version os ps small a b. lists_agree meta selects history s os ps version small a b

pub returns-clause-watches : goal.returns-clause-watches
returns-clause-watches g c = λ meta selects history s version es fs a b same. watches_agree meta selects history s version es fs a b same
