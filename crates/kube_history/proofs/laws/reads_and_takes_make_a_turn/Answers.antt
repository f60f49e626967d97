use Rattle.kube_history.proofs.TurnCalls.{makes}
use Rattle.kube_history.proofs.laws.reads_and_takes_make_a_turn.Goals as goal

pub returns : goal.returns
returns g c w policies h t r fs xs ts v z k d y = makes w h t r fs xs ts y policies v z k d
