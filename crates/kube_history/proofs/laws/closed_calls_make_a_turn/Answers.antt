use Rattle.kube_history.proofs.Calls.{closed-make}
use Rattle.kube_history.proofs.laws.closed_calls_make_a_turn.Goals as goal

pub returns : goal.returns
returns g c w settings watched policies h t fs o v z = closed-make w settings watched policies h t fs o v z
