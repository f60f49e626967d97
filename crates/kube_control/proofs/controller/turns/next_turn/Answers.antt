use Rattle.std.proofs.Common.{◌≡◌, refl, sym, ap, subst, ◌∙◌, arith, option_map}
use Rattle.std.specs.Arc.{arc_value}
use Rattle.std.proofs.lemmas.Result.{err_from_is_err_and}
use Rattle.kube_meta.specs.declared.moment.Moment.{Moment}
use Rattle.kube_history.specs.CoreWorld.{core_world}
use Rattle.kube_history.specs.CoreEvents.{clock_of, queue_of, running_of}
use Rattle.kube_core.specs.Pendings.{Stands}
use Rattle.kube_turn.specs.Records.{record_of, turn_of}
use Rattle.kube_step.specs.Errors.{refusal_of}
use Rattle.kube_step.specs.Policies.{Answers}
use Rattle.kube_control.specs.Runs.{IsWatching, OfValid}
use Rattle.kube_control.proofs.Runs.{broken-is, next-is, nothing-lost}
use Rattle.kube_control.proofs.controller.turns.next_turn.Goals as goal

pub returns-in_err-why-clause-broken : goal.returns-in_err-why-clause-broken
returns-in_err-why-clause-broken g c =
    let p = err_from_is_err_and c.from_residual.result c.from_residual.ensures.1 in
    rw (p.1, p.2) (λ w h k. nothing-lost g.R.RootSource g.S.RelatedSet g.B.Backoff g.R.Object.Resource w (Answers g.P.Fn c.args.error_policy.now (arc_value c.args.context.now)) h c.args.turn c.args.controller.now (g.Rc.Reconciler.handed c.args.reconciler.now) k)

pub returns-in-Some-clause-refused : goal.returns-in-Some-clause-refused
returns-in-Some-clause-refused g c = (
  refl,
  refl,
  λ w h now.
      let k = subst (IsWatching g.R.RootSource g.S.RelatedSet g.B.Backoff g.R.Object.Resource w h) (sym c.controller.view_is) now in
      let clock : c.clock.result.0 ≡ clock_of k.may.parts.events = c.clock.ensures.last (core_world w) k.may.parts.events k.may.parts.core_stands in
      let behind = k.may.parts.agrees.behind in
      let last = k.last in
      let is = ap (λ (m : Moment). m.0) (c.last_moment-last.ensures.last (omega (arith, clock, behind, last))) ∙ last in
      let waits = subst (λ p. Stands g.R.Object.Resource.type_of (core_world w) p (queue_of (core_world w) k.may.parts.events) (running_of k.may.parts.events)) (sym c.pending.ensures) k.may.parts.core_stands.pending in
      let why = c.in_ok-why.ensures.why (core_world w) (queue_of (core_world w) k.may.parts.events) (running_of k.may.parts.events) h waits k.may.parts.agrees.running is in
      sym why ∙ ap (option_map refusal_of) c.in-Some.is,
)

pub returns-in_err-record-clause-broken : goal.returns-in_err-record-clause-broken
returns-in_err-record-clause-broken g c =
    let p = err_from_is_err_and c.from_residual-in_err-record.result c.from_residual-in_err-record.ensures.1 in
    let e = c.in_err-record.ensures.ended in
    rw (p.1, p.2) (λ w h now.
    let k = subst (IsWatching g.R.RootSource g.S.RelatedSet g.B.Backoff g.R.Object.Resource w h) (sym c.controller.view_is) now in
    let clock : c.clock.result.0 ≡ clock_of k.may.parts.events = c.clock.ensures.last (core_world w) k.may.parts.events k.may.parts.core_stands in
    let behind = k.may.parts.agrees.behind in
    let last = k.last in
    let is = ap (λ (m : Moment). m.0) (c.last_moment-last.ensures.last (omega (arith, clock, behind, last))) ∙ last in
    let waits = subst (λ p. Stands g.R.Object.Resource.type_of (core_world w) p (queue_of (core_world w) k.may.parts.events) (running_of k.may.parts.events)) (sym c.pending.ensures) k.may.parts.core_stands.pending in
    let why = c.in_ok-why.ensures.why (core_world w) (queue_of (core_world w) k.may.parts.events) (running_of k.may.parts.events) h waits k.may.parts.agrees.running is in
    let valid = sym why ∙ ap (option_map refusal_of) c.in_default.is in
    broken-is g.R.RootSource g.S.RelatedSet g.B.Backoff g.R.Object.Resource w (Answers g.P.Fn c.args.error_policy.now (arc_value c.args.context.now)) _ h c.args.turn c.args.controller.now _ c.take_turn.new.core.writer.kept c.take_turn.new.asks.root c.take_turn.new.asks.related
    (g.Rc.Reconciler.handed c.args.reconciler.now) (g.Rc.Reconciler.handed c.take_turn.new.reconciler) c.controller.view_is (OfValid valid e.0 e.1 (e.2 w h k.may valid)))

pub returns-clause-next : goal.returns-clause-next
returns-clause-next g c w h now going =
    let k = subst (IsWatching g.R.RootSource g.S.RelatedSet g.B.Backoff g.R.Object.Resource w h) (sym c.controller.view_is) now in
    let clock : c.clock.result.0 ≡ clock_of k.may.parts.events = c.clock.ensures.last (core_world w) k.may.parts.events k.may.parts.core_stands in
    let behind = k.may.parts.agrees.behind in
    let last = k.last in
    let is = ap (λ (m : Moment). m.0) (c.last_moment-last.ensures.last (omega (arith, clock, behind, last))) ∙ last in
    let waits = subst (λ p. Stands g.R.Object.Resource.type_of (core_world w) p (queue_of (core_world w) k.may.parts.events) (running_of k.may.parts.events)) (sym c.pending.ensures) k.may.parts.core_stands.pending in
    let why = c.in_ok-why.ensures.why (core_world w) (queue_of (core_world w) k.may.parts.events) (running_of k.may.parts.events) h waits k.may.parts.agrees.running is in
    let valid = sym why ∙ ap (option_map refusal_of) c.in_default.is in
    next-is g.R.RootSource g.S.RelatedSet g.B.Backoff g.R.Object.Resource w h (turn_of g.R.Object.Resource.type_of c.args.turn) c.args.controller.now _ (record_of g.R.Object.Resource.type_of c.in_ok-record.record) _ c.controller.view_is now going
    (c.in_ok-record.ensures.taken w h k.may valid) refl refl refl

pub returns-clause-finished : goal.returns-clause-finished
returns-clause-finished g c w h now =
    let k = subst (IsWatching g.R.RootSource g.S.RelatedSet g.B.Backoff g.R.Object.Resource w h) (sym c.controller.view_is) now in
    let clock : c.clock.result.0 ≡ clock_of k.may.parts.events = c.clock.ensures.last (core_world w) k.may.parts.events k.may.parts.core_stands in
    let behind = k.may.parts.agrees.behind in
    let last = k.last in
    let is = ap (λ (m : Moment). m.0) (c.last_moment-last.ensures.last (omega (arith, clock, behind, last))) ∙ last in
    let waits = subst (λ p. Stands g.R.Object.Resource.type_of (core_world w) p (queue_of (core_world w) k.may.parts.events) (running_of k.may.parts.events)) (sym c.pending.ensures) k.may.parts.core_stands.pending in
    let why = c.in_ok-why.ensures.why (core_world w) (queue_of (core_world w) k.may.parts.events) (running_of k.may.parts.events) h waits k.may.parts.agrees.running is in
    let valid = sym why ∙ ap (option_map refusal_of) c.in_default.is in
    c.in_ok-record.ensures.finished w h k.may valid
