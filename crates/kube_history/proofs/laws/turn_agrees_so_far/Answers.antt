use Rattle.kube_history.proofs.BrokenTurn.{so-far}
use Rattle.kube_history.proofs.laws.turn_agrees_so_far.Goals as goal

pub returns : goal.returns
returns g c w settings watched policies h t fs xs es o v z k n a = so-far w settings watched policies h t fs xs es o v z k n a
