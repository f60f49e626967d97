use Rattle.kube_server.proofs.StateLemmas.{call-later}
use Rattle.kube_server.proofs.laws.object_calls_go_on.Goals as goal

pub returns : goal.returns
returns c = λ old new namespace now raw move. call-later old namespace now raw.call new move.left
