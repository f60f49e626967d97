use Rattle.kube_server.proofs.TalkLemmas.{initial_watch}
use Rattle.kube_server.proofs.laws.initial_watches_tell_states.Goals as goal

pub returns : goal.returns
returns g c = λ meta selects history talk watch is b told first. initial_watch meta selects history talk watch is b told first
