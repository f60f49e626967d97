use Rattle.std.proofs.Common.{◌≡◌, false, true, not, is_some, sym, ap, subst, ◌∙◌, append-nil}
use Rattle.std.specs.List.{filter}
use Rattle.kube_meta.specs.Keys.{reference_of}
use Rattle.kube_meta.specs.Reference.{same_reference}
use Rattle.kube_history.specs.CoreEvents.{action_requests}
use Rattle.kube_history.specs.TurnCalls.{with_requests}
use Rattle.kube_core.specs.Pendings.{Stands}
use Rattle.kube_feed.specs.Requests.{ended_requests}
use Rattle.kube_feed.proofs.finishes.end.Goals as goal

pub returns-in_default : goal.returns-in_default
returns-in_default g c core qs rs s ran = absurd (let e : false ≡ true = ap is_some (sym c.in_default.is) ∙ (c.stop.ensures.ran core qs rs s ∙ ran) in cc)

pub returns-then-closed : goal.returns-then-closed
returns-then-closed g c core qs rs s ran =
    let type_of = g.K.Resource.type_of in
    let r = reference_of type_of c.args.reference.now in
    let left = filter (λ p. not (same_reference p.reference r)) rs in
    subst (λ b. Stands type_of core c.stop.new.self (with_requests qs c.args.at.0 (ended_requests b c.args.at.0 r c.args.ok c.args.action)) left) (sym c.if-closed.true)
    (subst (λ es. Stands type_of core c.stop.new.self es left) (sym (append-nil qs)) (c.stop.ensures.stands core qs rs s))

pub returns : goal.returns
returns g c core qs rs s ran =
    let type_of = g.K.Resource.type_of in
    let r = reference_of type_of c.args.reference.now in
    let left = filter (λ p. not (same_reference p.reference r)) rs in
    subst (λ b. Stands type_of core c.requeue.new.pending (with_requests qs c.args.at.0 (ended_requests b c.args.at.0 r c.args.ok c.args.action)) left) (sym c.if-closed.false)
    (subst (λ x. Stands type_of core c.requeue.new.pending (with_requests qs c.args.at.0 (action_requests c.args.at.0 x c.args.ok c.args.action)) left) c.in-Some.ensures.equal
    (c.requeue.ensures core qs left (c.stop.ensures.stands core qs rs s)))
