use Rattle.kube_history.proofs.OneTurn.{one-turn}
use Rattle.kube_history.proofs.laws.turn_agrees.Goals as goal

pub returns : goal.returns
returns g c w settings watched policies h t m es k n a = one-turn w settings watched policies h t m es k n a
