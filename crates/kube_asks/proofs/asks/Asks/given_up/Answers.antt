use Rattle.std.proofs.Common.{ap, ◌∙◌}
use Rattle.kube_model.specs.Pause.{Pause}
use Rattle.kube_asks.proofs.asks.Asks.given_up.Goals as goal

pub returns : goal.returns
returns g c w budget before mine h = c.has_given_up.ensures ∙ ap (λ (p : Pause g.row.B.Denot). p.given_up) h.kept.pause
