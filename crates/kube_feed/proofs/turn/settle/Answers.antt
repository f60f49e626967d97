use Rattle.std.proofs.Common.{◌||◌, ◌∙◌, ap}
use Rattle.kube_feed.proofs.turn.settle.Goals as goal

pub returns-clause-shut : goal.returns-clause-shut
returns-clause-shut g c w budget before mine s = c.either-parts.ensures ∙ ap (λ b. c.args.parts.now.shut || b) (c.given_up-gave_up.ensures w budget before mine s)

pub returns-clause-stands : goal.returns-clause-stands
returns-clause-stands g c core qs rs s = c.settle.ensures.stands core qs rs s
