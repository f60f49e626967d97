use Rattle.std.proofs.Common.{◌++◌, sym, ap, subst, ◌∙◌, append-nil}
use Rattle.kube_history.specs.TurnEvents.{reload_events}
use Rattle.kube_core.specs.Cores.{StandsFor}
use Rattle.kube_step.proofs.turn.reload_where.Goals as goal

pub returns-clause-stands : goal.returns-clause-stands
returns-clause-stands g c world es s =
    subst (λ us. StandsFor g.K.Resource.type_of g.K.Resource.meta_of world us c.args.core.now) (sym (ap (λ b. es ++ reload_events c.args.at.0 b) c.if-reload.false ∙ append-nil es)) s
