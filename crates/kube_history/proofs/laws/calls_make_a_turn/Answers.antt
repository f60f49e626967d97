use Rattle.kube_history.proofs.Calls.{calls-make}
use Rattle.kube_history.proofs.laws.calls_make_a_turn.Goals as goal

pub returns : goal.returns
returns g c w settings watched policies h t fs xs ts es o a v z k d l = calls-make w settings watched policies h t fs xs ts es o a v z k d l
