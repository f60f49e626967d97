use Rattle.std.proofs.Common.{[], sym, subst, append-nil}
use Rattle.kube_model.specs.History.{exchanges}
use Rattle.kube_history.specs.Agrees.{EachFits}
use Rattle.kube_history.proofs.TurnParts.{turn-fits}
use Rattle.kube_history.proofs.laws.exchanges_of_a_turn_fit.Goals as goal

pub returns : goal.returns
returns g c w h t xs f k = turn-fits w h t [] xs (subst (EachFits w []) (sym (append-nil (exchanges h))) f) k
