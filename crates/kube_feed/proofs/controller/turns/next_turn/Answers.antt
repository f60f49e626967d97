use Rattle.std.proofs.Common.{refl, sym, ap, subst, ◌∙◌, option_map}
use Rattle.std.specs.Arc.{arc_value}
use Rattle.std.proofs.lemmas.Result.{err_from_is_err_and}
use Rattle.kube_model.specs.Requests.{events_of}
use Rattle.kube_model.specs.Takes.{running}
use Rattle.kube_history.specs.CoreWorld.{core_world}
use Rattle.kube_turn.specs.Records.{record_of, turn_of}
use Rattle.kube_step.specs.Errors.{refusal_of}
use Rattle.kube_step.specs.Policies.{Answers}
use Rattle.kube_feed.specs.Fed.{Feeding, StandsFor}
use Rattle.kube_feed.specs.Reads.{IsReadIn}
use Rattle.kube_feed.specs.Runs.{OfValid}
use Rattle.kube_feed.proofs.Runs.{broken-of, next-of, nothing-lost}
use Rattle.kube_feed.proofs.controller.turns.next_turn.Goals as goal

pub returns-in_err-why-clause-broken : goal.returns-in_err-why-clause-broken
returns-in_err-why-clause-broken g c =
    let p = err_from_is_err_and c.from_residual.result c.from_residual.ensures.1 in
    rw (p.1, p.2) (λ w h k. nothing-lost g.R.RootSource g.S.RelatedSet g.B.Backoff g.R.Object.Resource w (Answers g.P.Fn c.args.error_policy.now (arc_value c.args.context.now)) h c.args.turn c.args.controller.now (g.Rc.Reconciler.handed c.args.reconciler.now))

pub returns-in-Some-clause-refused : goal.returns-in-Some-clause-refused
returns-in-Some-clause-refused g c = (
  refl,
  refl,
  λ w h now.
      let k = subst (StandsFor g.R.RootSource g.S.RelatedSet g.B.Backoff g.R.Object.Resource w h) (sym c.controller.view_is) now in
      sym (c.in_ok-why.ensures.why (core_world w) (events_of w h) (running h) h k.parts.waits refl k.last) ∙ ap (option_map refusal_of) c.in-Some.is,
)

pub returns-in_err-record-clause-broken : goal.returns-in_err-record-clause-broken
returns-in_err-record-clause-broken g c =
    let p = err_from_is_err_and c.from_residual-in_err-record.result c.from_residual-in_err-record.ensures.1 in
    let e = c.in_err-record.ensures.ended in
    rw (p.1, p.2) (λ w h now.
    let k = subst (StandsFor g.R.RootSource g.S.RelatedSet g.B.Backoff g.R.Object.Resource w h) (sym c.controller.view_is) now in
    let valid = sym (c.in_ok-why.ensures.why (core_world w) (events_of w h) (running h) h k.parts.waits refl k.last) ∙ ap (option_map refusal_of) c.in_default.is in
    broken-of g.R.RootSource g.S.RelatedSet g.B.Backoff g.R.Object.Resource w (Answers g.P.Fn c.args.error_policy.now (arc_value c.args.context.now)) _ h c.args.turn _ c.args.controller.now c.take_turn.new.asks.root c.take_turn.new.asks.related
    c.take_turn.new.parts.reader (g.Rc.Reconciler.handed c.args.reconciler.now) (g.Rc.Reconciler.handed c.take_turn.new.reconciler) c.controller.view_is (OfValid valid e.0 e.1 (e.2 w h k.parts valid)))

pub returns-clause-next : goal.returns-clause-next
returns-clause-next g c w h now going =
    let k = subst (StandsFor g.R.RootSource g.S.RelatedSet g.B.Backoff g.R.Object.Resource w h) (sym c.controller.view_is) now in
    let valid = sym (c.in_ok-why.ensures.why (core_world w) (events_of w h) (running h) h k.parts.waits refl k.last) ∙ ap (option_map refusal_of) c.in_default.is in
    let t = c.in_ok-record.ensures.taken w h k.parts valid in (
      t.0,
      subst (λ (x : Feeding g.row.R.Denot g.row.S.Denot g.row.B.Denot g.row.R-Object.Denot g.row.R-Object-DynamicType.Denot).
          IsReadIn g.R.Object.Resource.meta_of (record_of g.R.Object.Resource.type_of c.in_ok-record.record).taken t.0 x.reader c.take_turn.new.parts.reader) c.controller.view_is t.1,
      next-of g.R.RootSource g.S.RelatedSet g.B.Backoff g.R.Object.Resource w h (turn_of g.R.Object.Resource.type_of c.args.turn) _ c.args.controller.now _ (record_of g.R.Object.Resource.type_of c.in_ok-record.record, t.0) c.controller.view_is now going t.2 refl refl refl,
    )

pub returns-clause-finished : goal.returns-clause-finished
returns-clause-finished g c w h now =
    let k = subst (StandsFor g.R.RootSource g.S.RelatedSet g.B.Backoff g.R.Object.Resource w h) (sym c.controller.view_is) now in
    let valid = sym (c.in_ok-why.ensures.why (core_world w) (events_of w h) (running h) h k.parts.waits refl k.last) ∙ ap (option_map refusal_of) c.in_default.is in
    c.in_ok-record.ensures.finished w h k.parts valid
