use Rattle.std.proofs.Common.{◌≤◌, is_some, not, ◌&&◌, refl, sym, subst, ap, ◌∙◌}
use Rattle.std.proofs.lemmas.Result.{err_from_is_err_and}
use Rattle.kube_history.specs.CoreEvents.{next_candidate, queue_of, running_of}
use Rattle.kube_core.specs.Cores.{Parts, StandsFor, looked_up}
use Rattle.kube_history.specs.CoreEvents.{cache_of}
use Rattle.kube_turn.specs.Views.{taken_of}
use Rattle.kube_core.proofs.CoreSteps.{took-none, took-next, next-some}
use Rattle.kube_core.proofs.TakenSteps.{some-mapped}
use Rattle.kube_core.proofs.controller_core.Core.take.Goals as goal

pub returns-then-not-may_take-clause-stands : goal.returns-then-not-may_take-clause-stands
returns-then-not-may_take-clause-stands g c core es s =
    let type_of = g.K.Resource.type_of in
    let meta = g.K.Resource.meta_of in
    let z = subst (λ (p : Parts g.row.K.Denot g.row.K-DynamicType.Denot). StandsFor g.K.Resource.type_of g.K.Resource.meta_of core es p) (sym c.self.view_is) s in
    let m = subst (λ (p : Parts g.row.K.Denot g.row.K-DynamicType.Denot). p.clock.0 ≤ c.args.now.0) (sym c.self.view_is) c.requires in
    let o = ap (λ (p : Parts g.row.K.Denot g.row.K-DynamicType.Denot). not p.is_shut && p.writer.kept.is_ready) c.self.view_is ∙ (sym c.may_take.ensures ∙ c.if-not-may_take.true) in
    took-none type_of meta core es _ _ z c.args.now m refl refl refl o refl refl

pub returns-clause-next : goal.returns-clause-next
returns-clause-next g c core es s =
    let type_of = g.K.Resource.type_of in
    let meta = g.K.Resource.meta_of in
    let z = subst (λ (p : Parts g.row.K.Denot g.row.K-DynamicType.Denot). StandsFor g.K.Resource.type_of g.K.Resource.meta_of core es p) (sym c.self.view_is) s in
    let m = subst (λ (p : Parts g.row.K.Denot g.row.K-DynamicType.Denot). p.clock.0 ≤ c.args.now.0) (sym c.self.view_is) c.requires in
    let inside : Parts g.row.K.Denot g.row.K-DynamicType.Denot = record { writer = c.self.inside.writer; pending = c.self.inside.pending; initial = c.self.inside.initial; clock = c.self.inside.clock; is_shut = c.self.inside.shut } in
    let o = ap (λ (p : Parts g.row.K.Denot g.row.K-DynamicType.Denot). not p.is_shut && p.writer.kept.is_ready) c.self.view_is ∙ (sym c.may_take.ensures ∙ c.if-not-may_take.false) in
    let stored = c.cache.ensures ∙ z.stored.stored in
    let first = c.in_ok-taken.ensures.first core (cache_of core es) (queue_of core es) (running_of es) z.pending stored in
    first ∙ sym (next-some type_of meta core es inside inside z o)

pub returns-clause-stands : goal.returns-clause-stands
returns-clause-stands g c core es s =
    let type_of = g.K.Resource.type_of in
    let meta = g.K.Resource.meta_of in
    let z = subst (λ (p : Parts g.row.K.Denot g.row.K-DynamicType.Denot). StandsFor g.K.Resource.type_of g.K.Resource.meta_of core es p) (sym c.self.view_is) s in
    let m = subst (λ (p : Parts g.row.K.Denot g.row.K-DynamicType.Denot). p.clock.0 ≤ c.args.now.0) (sym c.self.view_is) c.requires in
    let inside : Parts g.row.K.Denot g.row.K-DynamicType.Denot = record { writer = c.self.inside.writer; pending = c.self.inside.pending; initial = c.self.inside.initial; clock = c.self.inside.clock; is_shut = c.self.inside.shut } in
    let o = ap (λ (p : Parts g.row.K.Denot g.row.K-DynamicType.Denot). not p.is_shut && p.writer.kept.is_ready) c.self.view_is ∙ (sym c.may_take.ensures ∙ c.if-not-may_take.false) in
    let stored = c.cache.ensures ∙ z.stored.stored in
    let first = c.in_ok-taken.ensures.first core (cache_of core es) (queue_of core es) (running_of es) z.pending stored in
    took-next type_of meta core es inside _ z c.args.now m refl refl refl (taken_of type_of c.in_ok-taken.taken) o refl first
    (c.in_ok-taken.ensures.stands core (cache_of core es) (queue_of core es) (running_of es) z.pending stored)

pub returns-in_err-taken-clause-wanted : goal.returns-in_err-taken-clause-wanted
returns-in_err-taken-clause-wanted g c =
    let p = err_from_is_err_and c.from_residual.result c.from_residual.ensures.1 in
    rw p.1 (λ core es s.
    let type_of = g.K.Resource.type_of in
    let meta = g.K.Resource.meta_of in
    let z = subst (λ (p : Parts g.row.K.Denot g.row.K-DynamicType.Denot). StandsFor g.K.Resource.type_of g.K.Resource.meta_of core es p) (sym c.self.view_is) s in
    let inside : Parts g.row.K.Denot g.row.K-DynamicType.Denot = record { writer = c.self.inside.writer; pending = c.self.inside.pending; initial = c.self.inside.initial; clock = c.self.inside.clock; is_shut = c.self.inside.shut } in
    let o = ap (λ (p : Parts g.row.K.Denot g.row.K-DynamicType.Denot). not p.is_shut && p.writer.kept.is_ready) c.self.view_is ∙ (sym c.may_take.ensures ∙ c.if-not-may_take.false) in
    let stored = c.cache.ensures ∙ z.stored.stored in
    ap is_some (next-some type_of meta core es inside inside z o)
    ∙ some-mapped (looked_up core.key (cache_of core es)) (next_candidate core (queue_of core es) (running_of es)) (c.in_err-taken.ensures.wanted core (cache_of core es) (queue_of core es) (running_of es) z.pending stored))
