use Rattle.std.proofs.Common.{[]}
use Rattle.kube_asks.proofs.AskedTurn.{asked-in-turn}
use Rattle.kube_asks.proofs.laws.asks_one_after_another.Goals as goal

pub returns : goal.returns
returns g c w h t a b xs k = asked-in-turn w h t a b [] xs k
