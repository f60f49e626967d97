use Rattle.std.proofs.Common.{◌≤◌, true, is_some, refl, sym, subst, ap, ◌∙◌, not}
use Rattle.kube_history.specs.CoreEvents.{queue_of, running_of}
use Rattle.kube_core.specs.Cores.{Parts, StandsFor}
use Rattle.std.specs.List.{filter}
use Rattle.kube_meta.specs.Keys.{reference_of}
use Rattle.kube_meta.specs.Reference.{same_reference}
use Rattle.kube_history.specs.CoreEvents.{action_requests}
use Rattle.kube_history.specs.TurnCalls.{with_requests}
use Rattle.kube_core.specs.Pendings.{Stands}
use Rattle.kube_core.proofs.CoreSteps.{finished-none, finished-shut, finished-open}
use Rattle.kube_core.proofs.controller_core.Core.finish.Goals as goal

pub returns-in_default-clause-ran : goal.returns-in_default-clause-ran
returns-in_default-clause-ran g c core es s =
    let type_of = g.K.Resource.type_of in
    let meta = g.K.Resource.meta_of in
    let z = subst (λ (p : Parts g.row.K.Denot g.row.K-DynamicType.Denot). StandsFor g.K.Resource.type_of g.K.Resource.meta_of core es p) (sym c.self.view_is) s in
    ap is_some (sym c.in_default.is) ∙ c.stop.ensures.ran core (queue_of core es) (running_of es) z.pending

pub returns-in_default-clause-stands : goal.returns-in_default-clause-stands
returns-in_default-clause-stands g c core es s =
    let type_of = g.K.Resource.type_of in
    let meta = g.K.Resource.meta_of in
    let z = subst (λ (p : Parts g.row.K.Denot g.row.K-DynamicType.Denot). StandsFor g.K.Resource.type_of g.K.Resource.meta_of core es p) (sym c.self.view_is) s in
    let m = subst (λ (p : Parts g.row.K.Denot g.row.K-DynamicType.Denot). p.clock.0 ≤ c.args.now.0) (sym c.self.view_is) c.requires in
    let r = reference_of type_of c.args.reference.now in
    let stopped = c.stop.ensures.stands core (queue_of core es) (running_of es) z.pending in
    let ran = ap is_some (sym c.in_default.is) ∙ c.stop.ensures.ran core (queue_of core es) (running_of es) z.pending in
    finished-none type_of meta core es _ _ z c.args.now m refl refl refl r c.args.ok c.args.action refl ran stopped

pub returns-then-self-clause-ran : goal.returns-then-self-clause-ran
returns-then-self-clause-ran g c core es s =
    let type_of = g.K.Resource.type_of in
    let meta = g.K.Resource.meta_of in
    let z = subst (λ (p : Parts g.row.K.Denot g.row.K-DynamicType.Denot). StandsFor g.K.Resource.type_of g.K.Resource.meta_of core es p) (sym c.self.view_is) s in
    ap is_some (sym c.in-Some.is) ∙ c.stop.ensures.ran core (queue_of core es) (running_of es) z.pending

pub returns-then-self-clause-stands : goal.returns-then-self-clause-stands
returns-then-self-clause-stands g c core es s =
    let type_of = g.K.Resource.type_of in
    let meta = g.K.Resource.meta_of in
    let z = subst (λ (p : Parts g.row.K.Denot g.row.K-DynamicType.Denot). StandsFor g.K.Resource.type_of g.K.Resource.meta_of core es p) (sym c.self.view_is) s in
    let m = subst (λ (p : Parts g.row.K.Denot g.row.K-DynamicType.Denot). p.clock.0 ≤ c.args.now.0) (sym c.self.view_is) c.requires in
    let r = reference_of type_of c.args.reference.now in
    let stopped = c.stop.ensures.stands core (queue_of core es) (running_of es) z.pending in
    let ran = ap is_some (sym c.in-Some.is) ∙ c.stop.ensures.ran core (queue_of core es) (running_of es) z.pending in
    finished-shut type_of meta core es _ _ z c.args.now m refl refl refl r c.args.ok c.args.action refl true ran c.if-self.true stopped

pub returns-clause-ran : goal.returns-clause-ran
returns-clause-ran g c core es s =
    let type_of = g.K.Resource.type_of in
    let meta = g.K.Resource.meta_of in
    let z = subst (λ (p : Parts g.row.K.Denot g.row.K-DynamicType.Denot). StandsFor g.K.Resource.type_of g.K.Resource.meta_of core es p) (sym c.self.view_is) s in
    ap is_some (sym c.in-Some.is) ∙ c.stop.ensures.ran core (queue_of core es) (running_of es) z.pending

pub returns-clause-stands : goal.returns-clause-stands
returns-clause-stands g c core es s =
    let type_of = g.K.Resource.type_of in
    let meta = g.K.Resource.meta_of in
    let z = subst (λ (p : Parts g.row.K.Denot g.row.K-DynamicType.Denot). StandsFor g.K.Resource.type_of g.K.Resource.meta_of core es p) (sym c.self.view_is) s in
    let m = subst (λ (p : Parts g.row.K.Denot g.row.K-DynamicType.Denot). p.clock.0 ≤ c.args.now.0) (sym c.self.view_is) c.requires in
    let r = reference_of type_of c.args.reference.now in
    let stopped = c.stop.ensures.stands core (queue_of core es) (running_of es) z.pending in
    let ran = ap is_some (sym c.in-Some.is) ∙ c.stop.ensures.ran core (queue_of core es) (running_of es) z.pending in
    finished-open type_of meta core es _ _ z c.args.now m refl refl refl r c.args.ok c.args.action refl true ran c.if-self.false
    (subst (λ x. Stands type_of core c.requeue.new.pending (with_requests (queue_of core es) c.args.now.0 (action_requests c.args.now.0 x c.args.ok c.args.action)) (filter (λ p. not (same_reference p.reference r)) (running_of es)))
    c.in-Some.ensures.equal
    (c.requeue.ensures core (queue_of core es) (filter (λ p. not (same_reference p.reference r)) (running_of es)) stopped))
