use Rattle.kube_server.proofs.TalkLemmas.{later_watch}
use Rattle.kube_server.proofs.laws.later_watches_tell_each_change.Goals as goal

pub returns : goal.returns
returns g c = λ meta selects history talk watch is b told later. later_watch meta selects history talk watch is b told later
