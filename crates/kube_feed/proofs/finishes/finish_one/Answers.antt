use Rattle.std.proofs.Common.{not, subst}
use Rattle.std.specs.Arc.{arc_value}
use Rattle.std.specs.List.{filter}
use Rattle.kube_meta.specs.Keys.{reference_of}
use Rattle.kube_meta.specs.Reference.{same_reference}
use Rattle.kube_history.specs.TurnCalls.{with_requests}
use Rattle.kube_core.specs.Pendings.{Stands}
use Rattle.kube_step.specs.Finishes.{IsActionFor}
use Rattle.kube_step.specs.Policies.{Answers}
use Rattle.kube_feed.proofs.Finishing.{ended-is}
use Rattle.kube_feed.proofs.finishes.finish_one.Goals as goal

pub returns-clause-action : goal.returns-clause-action
returns-clause-action g c core qs rs s =
    subst (λ o. IsActionFor (Answers g.P.Fn c.args.error_policy.now (arc_value c.args.context.now)) o c.args.finish.outcome c.in_ok-action.action) (c.running.ensures core qs rs s) c.in_ok-action.ensures

pub returns-clause-stands : goal.returns-clause-stands
returns-clause-stands g c core qs rs s ran =
    let type_of = g.K.Resource.type_of in
    let r = reference_of type_of c.args.finish.reference in
    subst (λ us. Stands type_of core c.end.new.pending (with_requests qs c.args.at.0 us) (filter (λ p. not (same_reference p.reference r)) rs))
    (ended-is type_of c.args.closed c.args.at.0 (record { reference = c.args.finish.reference; outcome = c.args.finish.outcome; action = c.in_ok-action.action }) c.is_ok.result c.is_ok.ensures.value)
    (c.end.ensures core qs rs s ran)
