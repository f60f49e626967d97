use Rattle.kube_server.proofs.TalkLemmas.{complete_list}
use Rattle.kube_server.proofs.laws.complete_lists_are_states.Goals as goal

pub returns : goal.returns
returns g c = λ meta selects history talk list version is b told ends there. complete_list meta selects history talk list version is b told ends there
