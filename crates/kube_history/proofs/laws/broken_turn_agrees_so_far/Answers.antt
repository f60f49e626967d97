use Rattle.kube_history.proofs.BrokenTurn.{broken}
use Rattle.kube_history.proofs.laws.broken_turn_agrees_so_far.Goals as goal

pub returns : goal.returns
returns g c w settings watched policies h t fs xs source es v z k n s a = broken w settings watched policies h t fs xs source es v z k n s a
