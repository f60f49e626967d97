use Rattle.std.proofs.Common.{◌≡◌, [], map, refl, sym, ap, ◌∙◌}
use Rattle.std.specs.Arc.{arc_value}
use Rattle.std.specs.List.{filter_map}
use Rattle.std.proofs.lemmas.Result.{err_from_is_err_and}
use Rattle.kube_history.specs.CoreWorld.{core_world}
use Rattle.kube_reflect.specs.Writers.{Writing}
use Rattle.kube_turn.specs.Records.{finished_of, turn_of}
use Rattle.kube_turn.specs.Views.{exchange_of, taken_of}
use Rattle.kube_asks.specs.declared.asks.AskFault.TheVariants as faults
use Rattle.kube_step.specs.Policies.{Answers}
use Rattle.kube_step.specs.Turns.{AreTakesLeft}
use Rattle.kube_step.proofs.Taking.{grown-nil}
use Rattle.kube_step.proofs.Turning.{told-finishes}
use Rattle.kube_step.proofs.Turned.{before-takes, ended-first, ended-none, ended-still, events-first, if-unnamed, lost-shown, lost-taking, not-false, running-first, stands-first, turned}
use Rattle.kube_step.proofs.Until.{until-asks, until-before, until-finishes, until-still, until-takes}
use Rattle.kube_step.proofs.turn.take_turn.Goals as goal

pub returns-in_err-room-clause-ended : goal.returns-in_err-room-clause-ended
returns-in_err-room-clause-ended g c =
    let p = err_from_is_err_and c.from_residual.result c.from_residual.ensures.1 in
    rw (p.1, p.2) (
      [],
      sym (grown-nil (g.Rc.Reconciler.handed c.args.reconciler.now)),
      λ w h may v.
          let t = turn_of g.R.Object.Resource.type_of c.args.turn in
          let k = c.close-closed.ensures.closed (core_world w) may.parts.events may.parts.core_stands in
          before-takes g.R.RootSource g.S.RelatedSet w h t (AreTakesLeft g.R.Object.Resource.type_of (Answers g.P.Fn c.args.error_policy.now (arc_value c.args.context.now)) w h c.args.turn) faults.NoMemory c.close-closed.new.core.writer.kept c.args.asks.now.root c.args.asks.now.related _ _
          (ended-still g.R.RootSource g.S.RelatedSet g.B.Backoff g.R.Object.Resource w h t c.args.asks.now c.args.core.now may c.close-closed.result k
          c.close-closed.new.core.writer.kept (ap (λ (z : Writing _). z.kept) c.close-closed.ensures.writer) c.args.asks.now refl),
    )

pub returns-in_err-room-clause-starts_nothing : goal.returns-in_err-room-clause-starts_nothing
returns-in_err-room-clause-starts_nothing g c =
    let p = err_from_is_err_and c.from_residual.result c.from_residual.ensures.1 in
    rw (p.1, p.2) (tt)

pub returns-in_err-room-clause-left : goal.returns-in_err-room-clause-left
returns-in_err-room-clause-left g c =
    let p = err_from_is_err_and c.from_residual.result c.from_residual.ensures.1 in
    rw (p.1, p.2) (
      [],
      sym (grown-nil (g.Rc.Reconciler.handed c.args.reconciler.now)),
      λ w h may v.
          let type_of = g.R.Object.Resource.type_of in
          let t = turn_of type_of c.args.turn in
          let policy = Answers g.P.Fn c.args.error_policy.now (arc_value c.args.context.now) in
          let k = c.close-closed.ensures.closed (core_world w) may.parts.events may.parts.core_stands in
          until-still g.R.RootSource g.S.RelatedSet g.B.Backoff g.R.Object.Resource policy w h t c.args.turn.finishes c.args.asks.now c.args.core.now may c.close-closed.result k c.close-closed.new.core
          (stands-first w h t may.parts.events may.parts.agrees c.close-closed.result k g.R.Object.Resource c.args.core.now c.close-closed.new.core may.parts.core_stands
          (c.close-closed.ensures.stands (core_world w) may.parts.events may.parts.core_stands) c.close-closed.ensures.open) c.args.asks.now refl,
    )

pub returns-in_err-begin-clause-ended : goal.returns-in_err-begin-clause-ended
returns-in_err-begin-clause-ended g c =
    let p = err_from_is_err_and c.from_residual-in_err-begin.result c.from_residual-in_err-begin.ensures.1 in
    rw (p.1, p.2) (
      [],
      sym (grown-nil (g.Rc.Reconciler.handed c.args.reconciler.now)),
      λ w h may v.
          let t = turn_of g.R.Object.Resource.type_of c.args.turn in
          let k = c.close-closed.ensures.closed (core_world w) may.parts.events may.parts.core_stands in
          before-takes g.R.RootSource g.S.RelatedSet w h t (AreTakesLeft g.R.Object.Resource.type_of (Answers g.P.Fn c.args.error_policy.now (arc_value c.args.context.now)) w h c.args.turn) faults.NoMemory c.close-closed.new.core.writer.kept c.args.asks.now.root c.args.asks.now.related _ _
          (ended-still g.R.RootSource g.S.RelatedSet g.B.Backoff g.R.Object.Resource w h t c.args.asks.now c.args.core.now may c.close-closed.result k
          c.close-closed.new.core.writer.kept (ap (λ (z : Writing _). z.kept) c.close-closed.ensures.writer) c.begin.new.self c.in_err-begin.ensures.err),
    )

pub returns-in_err-begin-clause-starts_nothing : goal.returns-in_err-begin-clause-starts_nothing
returns-in_err-begin-clause-starts_nothing g c =
    let p = err_from_is_err_and c.from_residual-in_err-begin.result c.from_residual-in_err-begin.ensures.1 in
    rw (p.1, p.2) (tt)

pub returns-in_err-begin-clause-left : goal.returns-in_err-begin-clause-left
returns-in_err-begin-clause-left g c =
    let p = err_from_is_err_and c.from_residual-in_err-begin.result c.from_residual-in_err-begin.ensures.1 in
    rw (p.1, p.2) (
      [],
      sym (grown-nil (g.Rc.Reconciler.handed c.args.reconciler.now)),
      λ w h may v.
          let type_of = g.R.Object.Resource.type_of in
          let t = turn_of type_of c.args.turn in
          let policy = Answers g.P.Fn c.args.error_policy.now (arc_value c.args.context.now) in
          let k = c.close-closed.ensures.closed (core_world w) may.parts.events may.parts.core_stands in
          until-still g.R.RootSource g.S.RelatedSet g.B.Backoff g.R.Object.Resource policy w h t c.args.turn.finishes c.args.asks.now c.args.core.now may c.close-closed.result k c.close-closed.new.core
          (stands-first w h t may.parts.events may.parts.agrees c.close-closed.result k g.R.Object.Resource c.args.core.now c.close-closed.new.core may.parts.core_stands
          (c.close-closed.ensures.stands (core_world w) may.parts.events may.parts.core_stands) c.close-closed.ensures.open) c.begin.new.self c.in_err-begin.ensures.err,
    )

pub returns-in_err-finished-clause-ended : goal.returns-in_err-finished-clause-ended
returns-in_err-finished-clause-ended g c =
    let p = err_from_is_err_and c.from_residual-in_err-finished.result c.from_residual-in_err-finished.ensures.1 in
    rw (p.1, p.2) (
      [],
      sym (grown-nil (g.Rc.Reconciler.handed c.args.reconciler.now)),
      λ w h may v.
          let t = turn_of g.R.Object.Resource.type_of c.args.turn in
          let k = c.close-closed.ensures.closed (core_world w) may.parts.events may.parts.core_stands in
          let begun = c.in_ok-begin.ensures.stands w may.parts.budget may.parts.before may.parts.mine may.parts.asks_stand in
          before-takes g.R.RootSource g.S.RelatedSet w h t (AreTakesLeft g.R.Object.Resource.type_of (Answers g.P.Fn c.args.error_policy.now (arc_value c.args.context.now)) w h c.args.turn) faults.NoMemory c.finish_all.new.core.writer.kept c.args.asks.now.root c.args.asks.now.related c.begin.new.self.root c.begin.new.self.related
          (ended-none g.R.RootSource g.S.RelatedSet g.B.Backoff g.R.Object.Resource w h t c.args.asks.now c.args.core.now may c.begin.new.self c.from.result.items c.from.ensures c.in_ok-begin.ensures.begun begun c.close-closed.result k
          c.finish_all.new.core.writer.kept (ap (λ (z : Writing _). z.kept) (c.in_err-finished.ensures.writer ∙ c.close-closed.ensures.writer))),
    )

pub returns-clause-finished : goal.returns-clause-finished
returns-clause-finished g c w h may v =
    let type_of = g.R.Object.Resource.type_of in
    let t = turn_of type_of c.args.turn in
    let k = c.close-closed.ensures.closed (core_world w) may.parts.events may.parts.core_stands in
    c.in_ok-finished.ensures.finished (core_world w) (events-first w h t may.parts.events may.parts.agrees c.close-closed.result k) h t
    (stands-first w h t may.parts.events may.parts.agrees c.close-closed.result k g.R.Object.Resource c.args.core.now c.close-closed.new.core may.parts.core_stands
    (c.close-closed.ensures.stands (core_world w) may.parts.events may.parts.core_stands) c.close-closed.ensures.open)
    (running-first w h t may.parts.events may.parts.agrees c.close-closed.result k) v refl

pub returns-in_err-exchanges-clause-ended : goal.returns-in_err-exchanges-clause-ended
returns-in_err-exchanges-clause-ended g c =
    let p = err_from_is_err_and c.from_residual-in_err-exchanges.result c.from_residual-in_err-exchanges.ensures.1 in
    rw (p.1, p.2) (
      [],
      sym (grown-nil (g.Rc.Reconciler.handed c.args.reconciler.now)),
      λ w h may v.
          let type_of = g.R.Object.Resource.type_of in
          let t = turn_of type_of c.args.turn in
          let fs = map (finished_of type_of) c.in_ok-finished.finished in
          let k = c.close-closed.ensures.closed (core_world w) may.parts.events may.parts.core_stands in
          let first = events-first w h t may.parts.events may.parts.agrees c.close-closed.result k in
          let first-stands =
          stands-first w h t may.parts.events may.parts.agrees c.close-closed.result k g.R.Object.Resource c.args.core.now c.close-closed.new.core may.parts.core_stands
          (c.close-closed.ensures.stands (core_world w) may.parts.events may.parts.core_stands) c.close-closed.ensures.open in
          let ran = running-first w h t may.parts.events may.parts.agrees c.close-closed.result k in
          let begun = c.in_ok-begin.ensures.stands w may.parts.budget may.parts.before may.parts.mine may.parts.asks_stand in
          let done = c.in_ok-finished.ensures.stands (core_world w) first h t first-stands ran v refl in
          before-takes g.R.RootSource g.S.RelatedSet w h t (AreTakesLeft g.R.Object.Resource.type_of (Answers g.P.Fn c.args.error_policy.now (arc_value c.args.context.now)) w h c.args.turn) c.in_err-exchanges.field-0.0 c.ask_where.new.core.writer.kept c.args.asks.now.root c.args.asks.now.related c.ask_where.new.asks.root c.ask_where.new.asks.related
          (ended-first g.R.RootSource g.S.RelatedSet g.B.Backoff g.R.Object.Resource w h t c.args.asks.now c.args.core.now may c.begin.new.self c.from.result.items c.from.ensures c.in_ok-begin.ensures.begun begun c.close-closed.result k fs c.finish_all.new.core done c.in_err-exchanges.field-0.0 c.ask_where.new.core.writer.kept c.ask_where.new.asks.root c.ask_where.new.asks.related
          (c.in_err-exchanges.ensures.ended.0, λ us m. c.in_err-exchanges.ensures.ended.1 w h t us refl refl refl m)),
    )

pub returns-in_err-store-clause-ended : goal.returns-in_err-store-clause-ended
returns-in_err-store-clause-ended g c =
    let p = err_from_is_err_and c.from_residual-in_err-store.result c.from_residual-in_err-store.ensures.1 in
    rw (p.1, p.2) (
      [],
      sym (grown-nil (g.Rc.Reconciler.handed c.args.reconciler.now)),
      λ w h may v.
          let type_of = g.R.Object.Resource.type_of in
          let t = turn_of type_of c.args.turn in
          let fs = map (finished_of type_of) c.in_ok-finished.finished in
          let k = c.close-closed.ensures.closed (core_world w) may.parts.events may.parts.core_stands in
          let first = events-first w h t may.parts.events may.parts.agrees c.close-closed.result k in
          let first-stands =
          stands-first w h t may.parts.events may.parts.agrees c.close-closed.result k g.R.Object.Resource c.args.core.now c.close-closed.new.core may.parts.core_stands
          (c.close-closed.ensures.stands (core_world w) may.parts.events may.parts.core_stands) c.close-closed.ensures.open in
          let ran = running-first w h t may.parts.events may.parts.agrees c.close-closed.result k in
          let begun = c.in_ok-begin.ensures.stands w may.parts.budget may.parts.before may.parts.mine may.parts.asks_stand in
          let done = c.in_ok-finished.ensures.stands (core_world w) first h t first-stands ran v refl in
          let z =
          told-finishes type_of (Answers g.P.Fn c.args.error_policy.now (arc_value c.args.context.now)) h t c.args.turn.finishes c.in_ok-finished.finished v refl
          (c.in_ok-finished.ensures.finished (core_world w) first h t first-stands ran v refl) in
          lost-shown g.R.RootSource g.S.RelatedSet g.B.Backoff g.R.Object.Resource w h t c.args.asks.now c.args.core.now may c.begin.new.self c.from.result.items c.from.ensures c.in_ok-begin.ensures.begun begun c.close-closed.result k fs c.finish_all.new.core done v z (map (exchange_of type_of) c.in_ok-exchanges.exchanges) c.ask_where.new.asks c.ask_where.new.core
          (λ e. (ap (map (exchange_of type_of)) (c.in_ok-exchanges.ensures.closed e).0, (c.in_ok-exchanges.ensures.closed e).1, (c.in_ok-exchanges.ensures.closed e).2))
          (λ e us m. c.in_ok-exchanges.ensures.asked e w h t us refl refl refl m)
          c.in_err-store.ensures.err (ap (λ (z : Writing _). z.kept) (c.in_ok-finished.ensures.writer ∙ c.close-closed.ensures.writer))
          (AreTakesLeft g.R.Object.Resource.type_of (Answers g.P.Fn c.args.error_policy.now (arc_value c.args.context.now)) w h c.args.turn),
    )

pub returns-in_err-taken-clause-ended : goal.returns-in_err-taken-clause-ended
returns-in_err-taken-clause-ended g c =
    let p = err_from_is_err_and c.from_residual-in_err-taken.result c.from_residual-in_err-taken.ensures.1 in
    rw (p.1, p.2) (
      c.in_err-taken.ensures.lost.0,
      c.in_err-taken.ensures.lost.1,
      λ w h may v.
          let type_of = g.R.Object.Resource.type_of in
          let t = turn_of type_of c.args.turn in
          let fs = map (finished_of type_of) c.in_ok-finished.finished in
          let k = c.close-closed.ensures.closed (core_world w) may.parts.events may.parts.core_stands in
          let first = events-first w h t may.parts.events may.parts.agrees c.close-closed.result k in
          let first-stands =
          stands-first w h t may.parts.events may.parts.agrees c.close-closed.result k g.R.Object.Resource c.args.core.now c.close-closed.new.core may.parts.core_stands
          (c.close-closed.ensures.stands (core_world w) may.parts.events may.parts.core_stands) c.close-closed.ensures.open in
          let ran = running-first w h t may.parts.events may.parts.agrees c.close-closed.result k in
          let begun = c.in_ok-begin.ensures.stands w may.parts.budget may.parts.before may.parts.mine may.parts.asks_stand in
          let done = c.in_ok-finished.ensures.stands (core_world w) first h t first-stands ran v refl in
          let z =
          told-finishes type_of (Answers g.P.Fn c.args.error_policy.now (arc_value c.args.context.now)) h t c.args.turn.finishes c.in_ok-finished.finished v refl
          (c.in_ok-finished.ensures.finished (core_world w) first h t first-stands ran v refl) in
          lost-taking g.R.RootSource g.S.RelatedSet g.B.Backoff g.R.Object.Resource w h t c.args.asks.now c.args.core.now may c.begin.new.self c.from.result.items c.from.ensures c.in_ok-begin.ensures.begun begun c.close-closed.result k fs c.finish_all.new.core done v z (map (exchange_of type_of) c.in_ok-exchanges.exchanges) c.ask_where.new.asks c.ask_where.new.core
          (λ e. (ap (map (exchange_of type_of)) (c.in_ok-exchanges.ensures.closed e).0, (c.in_ok-exchanges.ensures.closed e).1, (c.in_ok-exchanges.ensures.closed e).2))
          (λ e us m. c.in_ok-exchanges.ensures.asked e w h t us refl refl refl m)
          c.in_err-taken.ensures.lost.2 c.in_ok-exchanges.ensures.clock c.take_where.new.core.writer.kept (ap (λ (z : Writing _). z.kept) c.in_err-taken.ensures.writer) c.in_err-taken.ensures.lost.0
          (λ us s. c.in_err-taken.ensures.lost.3 (core_world w) us s)
          (AreTakesLeft g.R.Object.Resource.type_of (Answers g.P.Fn c.args.error_policy.now (arc_value c.args.context.now)) w h c.args.turn)
          (λ left rest e.
          record {
            finished = fs;
            are_finished = (c.in_ok-finished.finished, c.in_ok-finished.ensures.finished (core_world w) first h t first-stands ran v refl, refl);
            left = left;
            rest = rest;
            takes = e;
          }),
    )

pub returns-clause-taken : goal.returns-clause-taken
returns-clause-taken g c w h may v =
    let type_of = g.R.Object.Resource.type_of in
    let t = turn_of type_of c.args.turn in
    let fs = map (finished_of type_of) c.in_ok-finished.finished in
    let k = c.close-closed.ensures.closed (core_world w) may.parts.events may.parts.core_stands in
    let first = events-first w h t may.parts.events may.parts.agrees c.close-closed.result k in
    let first-stands =
    stands-first w h t may.parts.events may.parts.agrees c.close-closed.result k g.R.Object.Resource c.args.core.now c.close-closed.new.core may.parts.core_stands
    (c.close-closed.ensures.stands (core_world w) may.parts.events may.parts.core_stands) c.close-closed.ensures.open in
    let ran = running-first w h t may.parts.events may.parts.agrees c.close-closed.result k in
    let begun = c.in_ok-begin.ensures.stands w may.parts.budget may.parts.before may.parts.mine may.parts.asks_stand in
    let done = c.in_ok-finished.ensures.stands (core_world w) first h t first-stands ran v refl in
    let z =
    told-finishes type_of (Answers g.P.Fn c.args.error_policy.now (arc_value c.args.context.now)) h t c.args.turn.finishes c.in_ok-finished.finished v refl
    (c.in_ok-finished.ensures.finished (core_world w) first h t first-stands ran v refl) in
    turned g.R.RootSource g.S.RelatedSet g.B.Backoff g.R.Object.Resource w h t c.args.asks.now c.args.core.now may c.begin.new.self c.from.result.items c.from.ensures c.in_ok-begin.ensures.begun begun c.close-closed.result k fs c.finish_all.new.core done v z (map (exchange_of type_of) c.in_ok-exchanges.exchanges) c.ask_where.new.asks c.ask_where.new.core
    (λ e. (ap (map (exchange_of type_of)) (c.in_ok-exchanges.ensures.closed e).0, (c.in_ok-exchanges.ensures.closed e).1, (c.in_ok-exchanges.ensures.closed e).2))
    (λ e us m. c.in_ok-exchanges.ensures.asked e w h t us refl refl refl m)
    (filter_map (taken_of type_of) c.in_ok-taken.taken) c.take_where.new.core
    (λ e. (ap (filter_map (taken_of type_of)) (c.in_ok-taken.ensures.closed e).0, (c.in_ok-taken.ensures.closed e).1))
    (λ e us s. c.in_ok-taken.ensures.took e (core_world w) us s)
    _ refl refl refl refl refl
    (λ n before mine world stands. c.stops_in-stops.ensures.stops w n before mine world stands)
    (λ us s. c.in_ok-store.ensures.shown (core_world w) us s) (λ us s. c.is_last-ended.ensures (core_world w) us s)

pub returns-in_err-finished-clause-starts_nothing : goal.returns-in_err-finished-clause-starts_nothing
returns-in_err-finished-clause-starts_nothing g c =
    let p = err_from_is_err_and c.from_residual-in_err-finished.result c.from_residual-in_err-finished.ensures.1 in
    rw (p.1, p.2) (tt)

pub returns-in_err-exchanges-clause-starts_nothing : goal.returns-in_err-exchanges-clause-starts_nothing
returns-in_err-exchanges-clause-starts_nothing g c =
    let p = err_from_is_err_and c.from_residual-in_err-exchanges.result c.from_residual-in_err-exchanges.ensures.1 in
    rw (p.1, p.2) (if-unnamed c.in_err-exchanges.field-0.0 (g.Rc.Reconciler.handed c.args.reconciler.now ≡ g.Rc.Reconciler.handed c.args.reconciler.now) refl)

pub returns-in_err-store-clause-starts_nothing : goal.returns-in_err-store-clause-starts_nothing
returns-in_err-store-clause-starts_nothing g c =
    let p = err_from_is_err_and c.from_residual-in_err-store.result c.from_residual-in_err-store.ensures.1 in
    rw (p.1, p.2) (tt)

pub returns-in_err-taken-clause-starts_nothing : goal.returns-in_err-taken-clause-starts_nothing
returns-in_err-taken-clause-starts_nothing g c =
    let p = err_from_is_err_and c.from_residual-in_err-taken.result c.from_residual-in_err-taken.ensures.1 in
    rw (p.1, p.2) (tt)

pub returns-in_err-finished-clause-left : goal.returns-in_err-finished-clause-left
returns-in_err-finished-clause-left g c =
    let p = err_from_is_err_and c.from_residual-in_err-finished.result c.from_residual-in_err-finished.ensures.1 in
    rw (p.1, p.2) (
      [],
      sym (grown-nil (g.Rc.Reconciler.handed c.args.reconciler.now)),
      λ w h may v.
          let type_of = g.R.Object.Resource.type_of in
          let t = turn_of type_of c.args.turn in
          let policy = Answers g.P.Fn c.args.error_policy.now (arc_value c.args.context.now) in
          let k = c.close-closed.ensures.closed (core_world w) may.parts.events may.parts.core_stands in
          let first = events-first w h t may.parts.events may.parts.agrees c.close-closed.result k in
          let first-stands =
          stands-first w h t may.parts.events may.parts.agrees c.close-closed.result k g.R.Object.Resource c.args.core.now c.close-closed.new.core may.parts.core_stands
          (c.close-closed.ensures.stands (core_world w) may.parts.events may.parts.core_stands) c.close-closed.ensures.open in
          let ran = running-first w h t may.parts.events may.parts.agrees c.close-closed.result k in
          let begun = c.in_ok-begin.ensures.stands w may.parts.budget may.parts.before may.parts.mine may.parts.asks_stand in
          let left = c.in_err-finished.ensures.left in
          let all = left.1 (core_world w) first h t first-stands ran v refl in
          until-finishes g.R.RootSource g.S.RelatedSet g.B.Backoff g.R.Object.Resource policy w h t c.args.turn.finishes c.args.asks.now c.args.core.now may c.begin.new.self c.from.result.items c.from.ensures c.in_ok-begin.ensures.begun begun c.close-closed.result k left.0 all.0 c.finish_all.new.core all.1,
    )

pub returns-in_err-exchanges-clause-left : goal.returns-in_err-exchanges-clause-left
returns-in_err-exchanges-clause-left g c =
    let p = err_from_is_err_and c.from_residual-in_err-exchanges.result c.from_residual-in_err-exchanges.ensures.1 in
    rw (p.1, p.2) (
      [],
      sym (grown-nil (g.Rc.Reconciler.handed c.args.reconciler.now)),
      λ w h may v.
          let type_of = g.R.Object.Resource.type_of in
          let t = turn_of type_of c.args.turn in
          let policy = Answers g.P.Fn c.args.error_policy.now (arc_value c.args.context.now) in
          let k = c.close-closed.ensures.closed (core_world w) may.parts.events may.parts.core_stands in
          let first = events-first w h t may.parts.events may.parts.agrees c.close-closed.result k in
          let first-stands =
          stands-first w h t may.parts.events may.parts.agrees c.close-closed.result k g.R.Object.Resource c.args.core.now c.close-closed.new.core may.parts.core_stands
          (c.close-closed.ensures.stands (core_world w) may.parts.events may.parts.core_stands) c.close-closed.ensures.open in
          let ran = running-first w h t may.parts.events may.parts.agrees c.close-closed.result k in
          let begun = c.in_ok-begin.ensures.stands w may.parts.budget may.parts.before may.parts.mine may.parts.asks_stand in
          let fs = map (finished_of type_of) c.in_ok-finished.finished in
          let done = c.in_ok-finished.ensures.stands (core_world w) first h t first-stands ran v refl in
          until-asks g.R.RootSource g.S.RelatedSet g.B.Backoff g.R.Object.Resource policy w h t c.args.turn.finishes c.args.asks.now c.args.core.now may c.begin.new.self c.from.result.items c.from.ensures c.in_ok-begin.ensures.begun begun c.close-closed.result k fs (c.in_ok-finished.finished, c.in_ok-finished.ensures.finished (core_world w) first h t first-stands ran v refl, refl) c.finish_all.new.core done c.in_err-exchanges.field-0.0 c.ask_where.new.asks.root c.ask_where.new.asks.related c.ask_where.new.core
          (not-false c.close-closed.result c.in_err-exchanges.ensures.ended.0) (λ us m. c.in_err-exchanges.ensures.left w h t us refl refl refl m),
    )

pub returns-in_err-store-clause-left : goal.returns-in_err-store-clause-left
returns-in_err-store-clause-left g c =
    let p = err_from_is_err_and c.from_residual-in_err-store.result c.from_residual-in_err-store.ensures.1 in
    rw (p.1, p.2) (
      [],
      sym (grown-nil (g.Rc.Reconciler.handed c.args.reconciler.now)),
      λ w h may v.
          let type_of = g.R.Object.Resource.type_of in
          let t = turn_of type_of c.args.turn in
          let policy = Answers g.P.Fn c.args.error_policy.now (arc_value c.args.context.now) in
          let k = c.close-closed.ensures.closed (core_world w) may.parts.events may.parts.core_stands in
          let first = events-first w h t may.parts.events may.parts.agrees c.close-closed.result k in
          let first-stands =
          stands-first w h t may.parts.events may.parts.agrees c.close-closed.result k g.R.Object.Resource c.args.core.now c.close-closed.new.core may.parts.core_stands
          (c.close-closed.ensures.stands (core_world w) may.parts.events may.parts.core_stands) c.close-closed.ensures.open in
          let ran = running-first w h t may.parts.events may.parts.agrees c.close-closed.result k in
          let begun = c.in_ok-begin.ensures.stands w may.parts.budget may.parts.before may.parts.mine may.parts.asks_stand in
          let fs = map (finished_of type_of) c.in_ok-finished.finished in
          let done = c.in_ok-finished.ensures.stands (core_world w) first h t first-stands ran v refl in
          until-before g.R.RootSource g.S.RelatedSet g.B.Backoff g.R.Object.Resource policy w h t c.args.turn.finishes c.args.asks.now c.args.core.now may c.begin.new.self c.from.result.items c.from.ensures c.in_ok-begin.ensures.begun begun c.close-closed.result k fs (c.in_ok-finished.finished, c.in_ok-finished.ensures.finished (core_world w) first h t first-stands ran v refl, refl) c.finish_all.new.core done (map (exchange_of type_of) c.in_ok-exchanges.exchanges) c.ask_where.new.asks c.ask_where.new.core
          (λ e. (ap (map (exchange_of type_of)) (c.in_ok-exchanges.ensures.closed e).0, (c.in_ok-exchanges.ensures.closed e).1, (c.in_ok-exchanges.ensures.closed e).2))
          (λ e us m. c.in_ok-exchanges.ensures.asked e w h t us refl refl refl m),
    )

pub returns-in_err-taken-clause-left : goal.returns-in_err-taken-clause-left
returns-in_err-taken-clause-left g c =
    let p = err_from_is_err_and c.from_residual-in_err-taken.result c.from_residual-in_err-taken.ensures.1 in
    rw (p.1, p.2) (
      c.in_err-taken.ensures.left.0,
      c.in_err-taken.ensures.left.2,
      λ w h may v.
          let type_of = g.R.Object.Resource.type_of in
          let t = turn_of type_of c.args.turn in
          let policy = Answers g.P.Fn c.args.error_policy.now (arc_value c.args.context.now) in
          let k = c.close-closed.ensures.closed (core_world w) may.parts.events may.parts.core_stands in
          let first = events-first w h t may.parts.events may.parts.agrees c.close-closed.result k in
          let first-stands =
          stands-first w h t may.parts.events may.parts.agrees c.close-closed.result k g.R.Object.Resource c.args.core.now c.close-closed.new.core may.parts.core_stands
          (c.close-closed.ensures.stands (core_world w) may.parts.events may.parts.core_stands) c.close-closed.ensures.open in
          let ran = running-first w h t may.parts.events may.parts.agrees c.close-closed.result k in
          let begun = c.in_ok-begin.ensures.stands w may.parts.budget may.parts.before may.parts.mine may.parts.asks_stand in
          let fs = map (finished_of type_of) c.in_ok-finished.finished in
          let done = c.in_ok-finished.ensures.stands (core_world w) first h t first-stands ran v refl in
          let left = c.in_err-taken.ensures.left in
          until-takes g.R.RootSource g.S.RelatedSet g.B.Backoff g.R.Object.Resource policy w h t c.args.turn.finishes c.args.asks.now c.args.core.now may c.begin.new.self c.from.result.items c.from.ensures c.in_ok-begin.ensures.begun begun c.close-closed.result k fs (c.in_ok-finished.finished, c.in_ok-finished.ensures.finished (core_world w) first h t first-stands ran v refl, refl) c.finish_all.new.core done (map (exchange_of type_of) c.in_ok-exchanges.exchanges) c.ask_where.new.asks c.ask_where.new.core
          (λ e. (ap (map (exchange_of type_of)) (c.in_ok-exchanges.ensures.closed e).0, (c.in_ok-exchanges.ensures.closed e).1, (c.in_ok-exchanges.ensures.closed e).2))
          (λ e us m. c.in_ok-exchanges.ensures.asked e w h t us refl refl refl m)
          (not-false c.close-closed.result c.in_err-taken.ensures.lost.2) left.0 left.1 left.3 c.take_where.new.core (λ us s. left.4 (core_world w) us s),
    )
