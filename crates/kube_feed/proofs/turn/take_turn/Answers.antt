use Rattle.std.proofs.Common.{◌≡◌, [], true, false, not, map, refl, sym, ap, subst, ◌∙◌}
use Rattle.std.specs.Arc.{arc_value}
use Rattle.std.specs.List.{filter_map}
use Rattle.std.proofs.lemmas.Result.{err_from_is_err_and}
use Rattle.kube_model.specs.Requests.{events_of}
use Rattle.kube_model.specs.Takes.{running}
use Rattle.kube_model.specs.Turns.{running_in}
use Rattle.kube_history.specs.CoreWorld.{core_world}
use Rattle.kube_turn.specs.Records.{finished_of, turn_of}
use Rattle.kube_turn.specs.Views.{exchange_of, shown_objects, taken_of}
use Rattle.kube_core.specs.Pendings.{Stands}
use Rattle.kube_asks.specs.Asking.{Asking}
use Rattle.kube_asks.specs.declared.asks.AskFault.TheVariants as faults
use Rattle.kube_step.specs.Policies.{Answers}
use Rattle.kube_step.proofs.Taking.{grown-nil}
use Rattle.kube_step.proofs.Turned.{if-unnamed, not-false}
use Rattle.kube_step.proofs.Turning.{told-finishes}
use Rattle.kube_feed.specs.Reads.{IsLater, IsReadFirst}
use Rattle.kube_feed.specs.Turns.{AreTakesSoFar, ShowIsLeft, TakeIsLeft}
use Rattle.kube_feed.proofs.Going.{reads_of, went-on}
use Rattle.kube_feed.proofs.OneTurn.{before-takes, ended-first, ended-none, ended-still, lost-taking, lost-whole, may-go-on, next-is, not-true, read-are, read-later, reads-are, reads-whole, still-open, takes-are, takes-whole, turned, went-now}
use Rattle.kube_feed.proofs.Reading.{later-more, later-none, some-shown}
use Rattle.kube_feed.proofs.turn.take_turn.Goals as goal

pub returns-in_err-finished-clause-same : goal.returns-in_err-finished-clause-same
returns-in_err-finished-clause-same g c = subst (λ y. IsLater c.args.parts.now.reader y) (sym (ap (λ p. p.reader) c.close-closed.ensures.rest)) (later-none c.args.parts.now.reader)

pub returns-in_err-exchanges-clause-same : goal.returns-in_err-exchanges-clause-same
returns-in_err-exchanges-clause-same g c = subst (λ y. IsLater y c.ask_where.new.parts.reader) (ap (λ p. p.reader) c.close-closed.ensures.rest) c.in_err-exchanges.ensures.same

pub returns-in_err-took-clause-same : goal.returns-in_err-took-clause-same
returns-in_err-took-clause-same g c =
    later-more c.args.parts.now.reader c.ask_where.new.parts.reader c.read_and_take.new.parts.reader
    (subst (λ y. IsLater y c.ask_where.new.parts.reader) (ap (λ p. p.reader) c.close-closed.ensures.rest) c.in_ok-exchanges.ensures.same) c.in_err-took.ensures.same

pub returns-in_err-store-clause-same : goal.returns-in_err-store-clause-same
returns-in_err-store-clause-same g c =
    later-more c.args.parts.now.reader c.ask_where.new.parts.reader c.shown.new.reader
    (subst (λ y. IsLater y c.ask_where.new.parts.reader) (ap (λ p. p.reader) c.close-closed.ensures.rest) c.in_ok-exchanges.ensures.same)
    (later-more c.ask_where.new.parts.reader c.read_and_take.new.parts.reader c.shown.new.reader c.in_ok-took.ensures.same c.in_err-store.ensures.same)

pub returns-clause-same : goal.returns-clause-same
returns-clause-same g c =
    later-more c.args.parts.now.reader c.ask_where.new.parts.reader c.shown.new.reader
    (subst (λ y. IsLater y c.ask_where.new.parts.reader) (ap (λ p. p.reader) c.close-closed.ensures.rest) c.in_ok-exchanges.ensures.same)
    (later-more c.ask_where.new.parts.reader c.read_and_take.new.parts.reader c.shown.new.reader c.in_ok-took.ensures.same c.in_ok-store.ensures.same)

pub returns-clause-finished : goal.returns-clause-finished
returns-clause-finished g c w h may v =
    let type_of = g.R.Object.Resource.type_of in
    let held = subst (λ y. Stands type_of (core_world w) y (events_of w h) (running h)) (sym (ap (λ p. p.pending) c.close-closed.ensures.rest)) may.waits in
    c.in_ok-finished.ensures.finished (core_world w) (events_of w h) h (turn_of type_of c.args.turn) held v refl

pub returns-clause-taken : goal.returns-clause-taken
returns-clause-taken g c w h may v =
    let type_of = g.R.Object.Resource.type_of in
    let t = turn_of type_of c.args.turn in
    let fs = map (finished_of type_of) c.in_ok-finished.finished in
    let rest = c.close-closed.ensures.rest in
    let closing = c.close-closed.new.parts in
    let held = subst (λ y. Stands type_of (core_world w) y (events_of w h) (running h)) (sym (ap (λ q. q.pending) rest)) may.waits in
    let done = c.in_ok-finished.ensures.stands (core_world w) (events_of w h) h t held v refl in
    let begun = c.in_ok-begin.ensures.stands w may.budget may.before may.mine may.asks_stand in
    let z =
    told-finishes type_of (Answers g.P.Fn c.args.error_policy.now (arc_value c.args.context.now)) h t c.args.turn.finishes c.in_ok-finished.finished v refl
    (c.in_ok-finished.ensures.finished (core_world w) (events_of w h) h t held v refl) in
    let shut-then = λ (e : not c.close-closed.result ≡ false). ap (λ y. y.shut) (c.in_ok-exchanges.ensures.closed e).2 ∙ (ap (λ q. q.shut) rest ∙ not-true c.close-closed.result e) in
    let stays = λ (e : not c.close-closed.result ≡ false). c.in_ok-took.ensures.closed (shut-then e) in
    let went = c.read_and_take.new.parts in
    turned g.R.RootSource g.S.RelatedSet g.B.Backoff g.R.Object.Resource w h t c.args.asks.now c.args.parts.now may c.begin.new.self c.from.result.items c.from.ensures c.in_ok-begin.ensures.begun begun c.close-closed.result c.close-closed.ensures.closed
    fs c.finish_all.new.pending done
    (record { reader = closing.reader; pending = c.finish_all.new.pending; ready = closing.ready; shut = closing.shut }) refl (ap (λ q. q.reader) rest) (ap (λ q. q.ready) rest) (ap (λ q. q.shut) rest)
    c.in_ok-took.took.1 (map (exchange_of type_of) c.in_ok-exchanges.exchanges) (filter_map (taken_of type_of) c.in_ok-took.took.0) c.ask_where.new.asks c.read_and_take.new.parts
    (λ e. (ap (map (exchange_of type_of)) (c.in_ok-exchanges.ensures.closed e).0, ap (filter_map (taken_of type_of)) (stays e).0, (stays e).1, (c.in_ok-exchanges.ensures.closed e).1, (stays e).2 ∙ (c.in_ok-exchanges.ensures.closed e).2))
    (λ e m.
    let k = c.in_ok-exchanges.ensures.asked e w h t _ refl refl refl m in
    let q = c.in_ok-took.ensures.taken (core_world w) _ (running_in w h t) k.1.waits in
    went-on g.R.RootSource g.S.RelatedSet g.B.Backoff g.R.Object.Resource w h t _ c.begin.new.self _ m k.0 (map (exchange_of type_of) c.in_ok-exchanges.exchanges) c.ask_where.new.asks c.ask_where.new.parts k.1 q.0 (filter_map (taken_of type_of) c.in_ok-took.took.0) c.read_and_take.new.parts q.2 c.in_ok-took.ensures.shut c.in_ok-took.took.1 q.1)
    v z
    (record { reader = c.shown.new.reader; pending = went.pending; ready = went.ready; shut = went.shut }) refl refl refl
    (shown_objects c.in_ok-store.store) (some-shown c.in_ok-store.store ∙ c.in_ok-store.ensures.asked) c.in_ok-store.ensures.listed
    _ refl refl refl refl refl refl
    (λ n before mine world stands. c.stops_in-stops.ensures.stops w n before mine world stands)
    (λ qs s. c.is_last-ended.ensures (core_world w) qs _ s)

pub returns-in_err-room-clause-ended : goal.returns-in_err-room-clause-ended
returns-in_err-room-clause-ended g c =
    let p = err_from_is_err_and c.from_residual.result c.from_residual.ensures.1 in
    rw (p.1, p.2) (
      [],
      sym (grown-nil (g.Rc.Reconciler.handed c.args.reconciler.now)),
      λ w h may v.
          let t = turn_of g.R.Object.Resource.type_of c.args.turn in
          before-takes g.R.RootSource g.S.RelatedSet w h t (AreTakesSoFar g.R.Object.Resource (Answers g.P.Fn c.args.error_policy.now (arc_value c.args.context.now)) w h c.args.turn c.args.parts.now.reader c.close-closed.new.parts.reader) faults.NoMemory c.args.asks.now.root c.args.asks.now.related _ _
          (ended-still g.R.RootSource g.S.RelatedSet g.B.Backoff g.R.Object.Resource w h t c.args.asks.now c.args.parts.now may c.args.asks.now refl refl),
    )

pub returns-in_err-room-clause-starts_nothing : goal.returns-in_err-room-clause-starts_nothing
returns-in_err-room-clause-starts_nothing g c =
    let p = err_from_is_err_and c.from_residual.result c.from_residual.ensures.1 in
    rw (p.1, p.2) (tt)

pub returns-in_err-begin-clause-ended : goal.returns-in_err-begin-clause-ended
returns-in_err-begin-clause-ended g c =
    let p = err_from_is_err_and c.from_residual-in_err-begin.result c.from_residual-in_err-begin.ensures.1 in
    rw (p.1, p.2) (
      [],
      sym (grown-nil (g.Rc.Reconciler.handed c.args.reconciler.now)),
      λ w h may v.
          let t = turn_of g.R.Object.Resource.type_of c.args.turn in
          before-takes g.R.RootSource g.S.RelatedSet w h t (AreTakesSoFar g.R.Object.Resource (Answers g.P.Fn c.args.error_policy.now (arc_value c.args.context.now)) w h c.args.turn c.args.parts.now.reader c.close-closed.new.parts.reader) faults.NoMemory c.args.asks.now.root c.args.asks.now.related _ _
          (ended-still g.R.RootSource g.S.RelatedSet g.B.Backoff g.R.Object.Resource w h t c.args.asks.now c.args.parts.now may c.begin.new.self (ap (λ (z : Asking _ _ _). z.root) c.in_err-begin.ensures.err) (ap (λ (z : Asking _ _ _). z.related) c.in_err-begin.ensures.err)),
    )

pub returns-in_err-begin-clause-starts_nothing : goal.returns-in_err-begin-clause-starts_nothing
returns-in_err-begin-clause-starts_nothing g c =
    let p = err_from_is_err_and c.from_residual-in_err-begin.result c.from_residual-in_err-begin.ensures.1 in
    rw (p.1, p.2) (tt)

pub returns-in_err-finished-clause-ended : goal.returns-in_err-finished-clause-ended
returns-in_err-finished-clause-ended g c =
    let p = err_from_is_err_and c.from_residual-in_err-finished.result c.from_residual-in_err-finished.ensures.1 in
    rw (p.1, p.2) (
      [],
      sym (grown-nil (g.Rc.Reconciler.handed c.args.reconciler.now)),
      λ w h may v.
          let t = turn_of g.R.Object.Resource.type_of c.args.turn in
          let begun = c.in_ok-begin.ensures.stands w may.budget may.before may.mine may.asks_stand in
          before-takes g.R.RootSource g.S.RelatedSet w h t (AreTakesSoFar g.R.Object.Resource (Answers g.P.Fn c.args.error_policy.now (arc_value c.args.context.now)) w h c.args.turn c.args.parts.now.reader c.close-closed.new.parts.reader) faults.NoMemory c.args.asks.now.root c.args.asks.now.related c.begin.new.self.root c.begin.new.self.related
          (ended-none g.R.RootSource g.S.RelatedSet g.B.Backoff g.R.Object.Resource w h t c.args.asks.now c.args.parts.now may c.begin.new.self c.from.result.items c.from.ensures c.in_ok-begin.ensures.begun begun c.close-closed.result c.close-closed.ensures.closed),
    )

pub returns-in_err-exchanges-clause-ended : goal.returns-in_err-exchanges-clause-ended
returns-in_err-exchanges-clause-ended g c =
    let p = err_from_is_err_and c.from_residual-in_err-exchanges.result c.from_residual-in_err-exchanges.ensures.1 in
    rw (p.1, p.2) (
      [],
      sym (grown-nil (g.Rc.Reconciler.handed c.args.reconciler.now)),
      λ w h may v.
          let type_of = g.R.Object.Resource.type_of in
          let t = turn_of type_of c.args.turn in
          let fs = map (finished_of type_of) c.in_ok-finished.finished in
          let rest = c.close-closed.ensures.rest in
          let closing = c.close-closed.new.parts in
          let held = subst (λ y. Stands type_of (core_world w) y (events_of w h) (running h)) (sym (ap (λ q. q.pending) rest)) may.waits in
          let done = c.in_ok-finished.ensures.stands (core_world w) (events_of w h) h t held v refl in
          let begun = c.in_ok-begin.ensures.stands w may.budget may.before may.mine may.asks_stand in
          before-takes g.R.RootSource g.S.RelatedSet w h t (AreTakesSoFar g.R.Object.Resource (Answers g.P.Fn c.args.error_policy.now (arc_value c.args.context.now)) w h c.args.turn c.args.parts.now.reader c.ask_where.new.parts.reader) c.in_err-exchanges.field-0.0 c.args.asks.now.root c.args.asks.now.related c.ask_where.new.asks.root c.ask_where.new.asks.related
          (ended-first g.R.RootSource g.S.RelatedSet g.B.Backoff g.R.Object.Resource w h t c.args.asks.now c.args.parts.now may c.begin.new.self c.from.result.items c.from.ensures c.in_ok-begin.ensures.begun begun c.close-closed.result c.close-closed.ensures.closed
          c.in_err-exchanges.field-0.0 c.ask_where.new.asks.root c.ask_where.new.asks.related
          (c.in_err-exchanges.ensures.ended.1 w h t _ refl refl refl
          (may-go-on g.R.RootSource g.S.RelatedSet g.B.Backoff g.R.Object.Resource w h t c.args.asks.now c.args.parts.now may c.begin.new.self c.from.result.items c.from.ensures c.in_ok-begin.ensures.begun begun c.close-closed.result c.close-closed.ensures.closed
          fs c.finish_all.new.pending done (not-false c.close-closed.result c.in_err-exchanges.ensures.ended.0)
          (record { reader = closing.reader; pending = c.finish_all.new.pending; ready = closing.ready; shut = closing.shut }) refl (ap (λ q. q.reader) rest) (ap (λ q. q.ready) rest) (ap (λ q. q.shut) rest)))),
    )

pub returns-in_err-took-clause-ended : goal.returns-in_err-took-clause-ended
returns-in_err-took-clause-ended g c =
    let p = err_from_is_err_and c.from_residual-in_err-took.result c.from_residual-in_err-took.ensures.1 in
    rw (p.1, p.2) (
      c.in_err-took.ensures.lost.0,
      c.in_err-took.ensures.lost.1,
      λ w h may v.
          let type_of = g.R.Object.Resource.type_of in
          let t = turn_of type_of c.args.turn in
          let fs = map (finished_of type_of) c.in_ok-finished.finished in
          let rest = c.close-closed.ensures.rest in
          let closing = c.close-closed.new.parts in
          let held = subst (λ y. Stands type_of (core_world w) y (events_of w h) (running h)) (sym (ap (λ q. q.pending) rest)) may.waits in
          let done = c.in_ok-finished.ensures.stands (core_world w) (events_of w h) h t held v refl in
          let begun = c.in_ok-begin.ensures.stands w may.budget may.before may.mine may.asks_stand in
          let z =
          told-finishes type_of (Answers g.P.Fn c.args.error_policy.now (arc_value c.args.context.now)) h t c.args.turn.finishes c.in_ok-finished.finished v refl
          (c.in_ok-finished.ensures.finished (core_world w) (events_of w h) h t held v refl) in
          let open-now = still-open c.close-closed.result c.ask_where.new.parts.shut (λ e. ap (λ y. y.shut) (c.in_ok-exchanges.ensures.closed e).2 ∙ (ap (λ q. q.shut) rest ∙ not-true c.close-closed.result e)) c.in_err-took.ensures.lost.2 in
          let k = went-now g.R.RootSource g.S.RelatedSet g.B.Backoff g.R.Object.Resource w h t c.args.asks.now c.args.parts.now may c.begin.new.self c.from.result.items c.from.ensures c.in_ok-begin.ensures.begun begun c.close-closed.result c.close-closed.ensures.closed
          fs c.finish_all.new.pending done
          (record { reader = closing.reader; pending = c.finish_all.new.pending; ready = closing.ready; shut = closing.shut }) refl (ap (λ q. q.reader) rest) (ap (λ q. q.ready) rest) (ap (λ q. q.shut) rest)
          (map (exchange_of type_of) c.in_ok-exchanges.exchanges) c.ask_where.new.asks c.ask_where.new.parts
          (λ e. (ap (map (exchange_of type_of)) (c.in_ok-exchanges.ensures.closed e).0, (c.in_ok-exchanges.ensures.closed e).1, (c.in_ok-exchanges.ensures.closed e).2))
          (λ e m. c.in_ok-exchanges.ensures.asked e w h t _ refl refl refl m) open-now in
          let q = c.in_err-took.ensures.lost.3 (core_world w) _ (running_in w h t) k.1.waits in
          let ts = c.in_err-took.ensures.lost.0 in
          lost-taking g.R.RootSource g.S.RelatedSet g.B.Backoff g.R.Object.Resource w h t c.args.asks.now c.args.parts.now may c.begin.new.self c.from.result.items c.from.ensures c.in_ok-begin.ensures.begun begun c.close-closed.result c.close-closed.ensures.closed
          fs c.finish_all.new.pending done
          (record { reader = closing.reader; pending = c.finish_all.new.pending; ready = closing.ready; shut = closing.shut }) refl (ap (λ q. q.reader) rest) (ap (λ q. q.ready) rest) (ap (λ q. q.shut) rest)
          (map (exchange_of type_of) c.in_ok-exchanges.exchanges) c.ask_where.new.asks c.ask_where.new.parts
          (λ e. (ap (map (exchange_of type_of)) (c.in_ok-exchanges.ensures.closed e).0, (c.in_ok-exchanges.ensures.closed e).1, (c.in_ok-exchanges.ensures.closed e).2))
          (λ e m. c.in_ok-exchanges.ensures.asked e w h t _ refl refl refl m)
          open-now (AreTakesSoFar g.R.Object.Resource (Answers g.P.Fn c.args.error_policy.now (arc_value c.args.context.now)) w h c.args.turn c.args.parts.now.reader c.read_and_take.new.parts.reader) ts
          (record {
            finished = fs;
            are_finished = (c.in_ok-finished.finished, c.in_ok-finished.ensures.finished (core_world w) (events_of w h) h t held v refl, refl);
            reads = reads_of k.0 q.0 ts;
            are_reads = reads-are g.R.RootSource g.S.RelatedSet g.B.Backoff g.R.Object.Resource w h t c.args.asks.now c.args.parts.now may c.begin.new.self c.from.result.items c.from.ensures c.in_ok-begin.ensures.begun begun c.close-closed.result c.close-closed.ensures.closed
                fs c.finish_all.new.pending done
                (record { reader = closing.reader; pending = c.finish_all.new.pending; ready = closing.ready; shut = closing.shut }) refl (ap (λ q. q.reader) rest) (ap (λ q. q.ready) rest) (ap (λ q. q.shut) rest)
                (map (exchange_of type_of) c.in_ok-exchanges.exchanges) c.ask_where.new.asks c.ask_where.new.parts
                (λ e. (ap (map (exchange_of type_of)) (c.in_ok-exchanges.ensures.closed e).0, (c.in_ok-exchanges.ensures.closed e).1, (c.in_ok-exchanges.ensures.closed e).2))
                (λ e m. c.in_ok-exchanges.ensures.asked e w h t _ refl refl refl m) open-now q.0 ts c.read_and_take.new.parts q.1;
            read =
                subst (λ y. IsReadFirst g.R.Object.Resource.meta_of ts (reads_of k.0 q.0 ts) y c.read_and_take.new.parts.reader) (ap (λ y. y.reader) rest)
                (read-are g.R.RootSource g.S.RelatedSet g.B.Backoff g.R.Object.Resource w h t c.args.asks.now c.args.parts.now may c.begin.new.self c.from.result.items c.from.ensures c.in_ok-begin.ensures.begun begun c.close-closed.result c.close-closed.ensures.closed
                fs c.finish_all.new.pending done
                (record { reader = closing.reader; pending = c.finish_all.new.pending; ready = closing.ready; shut = closing.shut }) refl (ap (λ q. q.reader) rest) (ap (λ q. q.ready) rest) (ap (λ q. q.shut) rest)
                (map (exchange_of type_of) c.in_ok-exchanges.exchanges) c.ask_where.new.asks c.ask_where.new.parts
                (λ e. (ap (map (exchange_of type_of)) (c.in_ok-exchanges.ensures.closed e).0, (c.in_ok-exchanges.ensures.closed e).1, (c.in_ok-exchanges.ensures.closed e).2))
                (λ e m. c.in_ok-exchanges.ensures.asked e w h t _ refl refl refl m) open-now q.0 ts c.read_and_take.new.parts q.1);
            takes = takes-are g.R.RootSource g.S.RelatedSet g.B.Backoff g.R.Object.Resource w h t c.args.asks.now c.args.parts.now may c.begin.new.self c.from.result.items c.from.ensures c.in_ok-begin.ensures.begun begun c.close-closed.result c.close-closed.ensures.closed
                fs c.finish_all.new.pending done
                (record { reader = closing.reader; pending = c.finish_all.new.pending; ready = closing.ready; shut = closing.shut }) refl (ap (λ q. q.reader) rest) (ap (λ q. q.ready) rest) (ap (λ q. q.shut) rest)
                (map (exchange_of type_of) c.in_ok-exchanges.exchanges) c.ask_where.new.asks c.ask_where.new.parts
                (λ e. (ap (map (exchange_of type_of)) (c.in_ok-exchanges.ensures.closed e).0, (c.in_ok-exchanges.ensures.closed e).1, (c.in_ok-exchanges.ensures.closed e).2))
                (λ e m. c.in_ok-exchanges.ensures.asked e w h t _ refl refl refl m) open-now q.0 ts c.read_and_take.new.parts q.1;
            more = TakeIsLeft q.1.taken.next (next-is g.R.RootSource g.S.RelatedSet g.B.Backoff g.R.Object.Resource w h t c.args.asks.now c.args.parts.now may c.begin.new.self c.from.result.items c.from.ensures c.in_ok-begin.ensures.begun begun c.close-closed.result c.close-closed.ensures.closed
                fs c.finish_all.new.pending done
                (record { reader = closing.reader; pending = c.finish_all.new.pending; ready = closing.ready; shut = closing.shut }) refl (ap (λ q. q.reader) rest) (ap (λ q. q.ready) rest) (ap (λ q. q.shut) rest)
                (map (exchange_of type_of) c.in_ok-exchanges.exchanges) c.ask_where.new.asks c.ask_where.new.parts
                (λ e. (ap (map (exchange_of type_of)) (c.in_ok-exchanges.ensures.closed e).0, (c.in_ok-exchanges.ensures.closed e).1, (c.in_ok-exchanges.ensures.closed e).2))
                (λ e m. c.in_ok-exchanges.ensures.asked e w h t _ refl refl refl m) open-now q.0 ts c.read_and_take.new.parts q.1);
          }),
    )

pub returns-in_err-store-clause-ended : goal.returns-in_err-store-clause-ended
returns-in_err-store-clause-ended g c =
    let p = err_from_is_err_and c.from_residual-in_err-store.result c.from_residual-in_err-store.ensures.1 in
    rw (p.1, p.2) (
      filter_map (taken_of g.R.Object.Resource.type_of) c.in_ok-took.took.0,
      c.in_ok-took.ensures.handed,
      λ w h may v.
          let type_of = g.R.Object.Resource.type_of in
          let t = turn_of type_of c.args.turn in
          let fs = map (finished_of type_of) c.in_ok-finished.finished in
          let rest = c.close-closed.ensures.rest in
          let closing = c.close-closed.new.parts in
          let held = subst (λ y. Stands type_of (core_world w) y (events_of w h) (running h)) (sym (ap (λ q. q.pending) rest)) may.waits in
          let done = c.in_ok-finished.ensures.stands (core_world w) (events_of w h) h t held v refl in
          let begun = c.in_ok-begin.ensures.stands w may.budget may.before may.mine may.asks_stand in
          let z =
          told-finishes type_of (Answers g.P.Fn c.args.error_policy.now (arc_value c.args.context.now)) h t c.args.turn.finishes c.in_ok-finished.finished v refl
          (c.in_ok-finished.ensures.finished (core_world w) (events_of w h) h t held v refl) in
          let shut-then = λ (e : not c.close-closed.result ≡ false). ap (λ y. y.shut) (c.in_ok-exchanges.ensures.closed e).2 ∙ (ap (λ q. q.shut) rest ∙ not-true c.close-closed.result e) in
          let stays = λ (e : not c.close-closed.result ≡ false). c.in_ok-took.ensures.closed (shut-then e) in
          let shows : c.args.turn.show ≡ true = c.in_err-store.ensures.wanted in
          let ts = filter_map (taken_of type_of) c.in_ok-took.took.0 in
          lost-whole g.R.RootSource g.S.RelatedSet g.B.Backoff g.R.Object.Resource w h t c.args.asks.now c.args.parts.now may c.begin.new.self c.from.result.items c.from.ensures c.in_ok-begin.ensures.begun begun c.close-closed.result c.close-closed.ensures.closed
          fs c.finish_all.new.pending done
          (record { reader = closing.reader; pending = c.finish_all.new.pending; ready = closing.ready; shut = closing.shut }) refl (ap (λ q. q.reader) rest) (ap (λ q. q.ready) rest) (ap (λ q. q.shut) rest)
          (map (exchange_of type_of) c.in_ok-exchanges.exchanges) c.ask_where.new.asks c.ask_where.new.parts
          (λ e. (ap (map (exchange_of type_of)) (c.in_ok-exchanges.ensures.closed e).0, (c.in_ok-exchanges.ensures.closed e).1, (c.in_ok-exchanges.ensures.closed e).2))
          (λ e m. c.in_ok-exchanges.ensures.asked e w h t _ refl refl refl m)
          c.read_and_take.new.parts ts (λ e. ap (filter_map (taken_of type_of)) (stays e).0) (λ us s. c.in_ok-took.ensures.taken (core_world w) us (running_in w h t) s) (AreTakesSoFar g.R.Object.Resource (Answers g.P.Fn c.args.error_policy.now (arc_value c.args.context.now)) w h c.args.turn c.args.parts.now.reader c.shown.new.reader)
          (λ e told q.
          record {
            finished = fs;
            are_finished = (c.in_ok-finished.finished, c.in_ok-finished.ensures.finished (core_world w) (events_of w h) h t held v refl, refl);
            reads = reads_of (went-now g.R.RootSource g.S.RelatedSet g.B.Backoff g.R.Object.Resource w h t c.args.asks.now c.args.parts.now may c.begin.new.self c.from.result.items c.from.ensures c.in_ok-begin.ensures.begun begun c.close-closed.result c.close-closed.ensures.closed
                fs c.finish_all.new.pending done
                (record { reader = closing.reader; pending = c.finish_all.new.pending; ready = closing.ready; shut = closing.shut }) refl (ap (λ q. q.reader) rest) (ap (λ q. q.ready) rest) (ap (λ q. q.shut) rest)
                (map (exchange_of type_of) c.in_ok-exchanges.exchanges) c.ask_where.new.asks c.ask_where.new.parts
                (λ e. (ap (map (exchange_of type_of)) (c.in_ok-exchanges.ensures.closed e).0, (c.in_ok-exchanges.ensures.closed e).1, (c.in_ok-exchanges.ensures.closed e).2))
                (λ e m. c.in_ok-exchanges.ensures.asked e w h t _ refl refl refl m) e).0 told ts;
            are_reads = reads-whole g.R.RootSource g.S.RelatedSet g.B.Backoff g.R.Object.Resource w h t c.args.asks.now c.args.parts.now may c.begin.new.self c.from.result.items c.from.ensures c.in_ok-begin.ensures.begun begun c.close-closed.result c.close-closed.ensures.closed
                fs c.finish_all.new.pending done
                (record { reader = closing.reader; pending = c.finish_all.new.pending; ready = closing.ready; shut = closing.shut }) refl (ap (λ q. q.reader) rest) (ap (λ q. q.ready) rest) (ap (λ q. q.shut) rest)
                (map (exchange_of type_of) c.in_ok-exchanges.exchanges) c.ask_where.new.asks c.ask_where.new.parts
                (λ e. (ap (map (exchange_of type_of)) (c.in_ok-exchanges.ensures.closed e).0, (c.in_ok-exchanges.ensures.closed e).1, (c.in_ok-exchanges.ensures.closed e).2))
                (λ e m. c.in_ok-exchanges.ensures.asked e w h t _ refl refl refl m) e told ts c.read_and_take.new.parts q;
            read =
                subst (λ y. IsReadFirst g.R.Object.Resource.meta_of ts (reads_of (went-now g.R.RootSource g.S.RelatedSet g.B.Backoff g.R.Object.Resource w h t c.args.asks.now c.args.parts.now may c.begin.new.self c.from.result.items c.from.ensures c.in_ok-begin.ensures.begun begun c.close-closed.result c.close-closed.ensures.closed
                fs c.finish_all.new.pending done
                (record { reader = closing.reader; pending = c.finish_all.new.pending; ready = closing.ready; shut = closing.shut }) refl (ap (λ q. q.reader) rest) (ap (λ q. q.ready) rest) (ap (λ q. q.shut) rest)
                (map (exchange_of type_of) c.in_ok-exchanges.exchanges) c.ask_where.new.asks c.ask_where.new.parts
                (λ e. (ap (map (exchange_of type_of)) (c.in_ok-exchanges.ensures.closed e).0, (c.in_ok-exchanges.ensures.closed e).1, (c.in_ok-exchanges.ensures.closed e).2))
                (λ e m. c.in_ok-exchanges.ensures.asked e w h t _ refl refl refl m) e).0 told ts) y c.shown.new.reader) (ap (λ y. y.reader) rest)
                (read-later g.R.RootSource g.S.RelatedSet g.B.Backoff g.R.Object.Resource w h t c.args.asks.now c.args.parts.now may c.begin.new.self c.from.result.items c.from.ensures c.in_ok-begin.ensures.begun begun c.close-closed.result c.close-closed.ensures.closed
                fs c.finish_all.new.pending done
                (record { reader = closing.reader; pending = c.finish_all.new.pending; ready = closing.ready; shut = closing.shut }) refl (ap (λ q. q.reader) rest) (ap (λ q. q.ready) rest) (ap (λ q. q.shut) rest)
                (map (exchange_of type_of) c.in_ok-exchanges.exchanges) c.ask_where.new.asks c.ask_where.new.parts
                (λ e. (ap (map (exchange_of type_of)) (c.in_ok-exchanges.ensures.closed e).0, (c.in_ok-exchanges.ensures.closed e).1, (c.in_ok-exchanges.ensures.closed e).2))
                (λ e m. c.in_ok-exchanges.ensures.asked e w h t _ refl refl refl m) e told ts c.read_and_take.new.parts q c.shown.new.reader c.in_err-store.ensures.same);
            takes = takes-whole g.R.RootSource g.S.RelatedSet g.B.Backoff g.R.Object.Resource w h t c.args.asks.now c.args.parts.now may c.begin.new.self c.from.result.items c.from.ensures c.in_ok-begin.ensures.begun begun c.close-closed.result c.close-closed.ensures.closed
                fs c.finish_all.new.pending done
                (record { reader = closing.reader; pending = c.finish_all.new.pending; ready = closing.ready; shut = closing.shut }) refl (ap (λ q. q.reader) rest) (ap (λ q. q.ready) rest) (ap (λ q. q.shut) rest)
                (map (exchange_of type_of) c.in_ok-exchanges.exchanges) c.ask_where.new.asks c.ask_where.new.parts
                (λ e. (ap (map (exchange_of type_of)) (c.in_ok-exchanges.ensures.closed e).0, (c.in_ok-exchanges.ensures.closed e).1, (c.in_ok-exchanges.ensures.closed e).2))
                (λ e m. c.in_ok-exchanges.ensures.asked e w h t _ refl refl refl m) e told ts c.read_and_take.new.parts q;
            more = ShowIsLeft shows;
          }),
    )

pub returns-in_err-finished-clause-starts_nothing : goal.returns-in_err-finished-clause-starts_nothing
returns-in_err-finished-clause-starts_nothing g c =
    let p = err_from_is_err_and c.from_residual-in_err-finished.result c.from_residual-in_err-finished.ensures.1 in
    rw (p.1, p.2) (tt)

pub returns-in_err-exchanges-clause-starts_nothing : goal.returns-in_err-exchanges-clause-starts_nothing
returns-in_err-exchanges-clause-starts_nothing g c =
    let p = err_from_is_err_and c.from_residual-in_err-exchanges.result c.from_residual-in_err-exchanges.ensures.1 in
    rw (p.1, p.2) (if-unnamed c.in_err-exchanges.field-0.0 (g.Rc.Reconciler.handed c.args.reconciler.now ≡ g.Rc.Reconciler.handed c.args.reconciler.now) refl)

pub returns-in_err-took-clause-starts_nothing : goal.returns-in_err-took-clause-starts_nothing
returns-in_err-took-clause-starts_nothing g c =
    let p = err_from_is_err_and c.from_residual-in_err-took.result c.from_residual-in_err-took.ensures.1 in
    rw (p.1, p.2) (tt)

pub returns-in_err-store-clause-starts_nothing : goal.returns-in_err-store-clause-starts_nothing
returns-in_err-store-clause-starts_nothing g c =
    let p = err_from_is_err_and c.from_residual-in_err-store.result c.from_residual-in_err-store.ensures.1 in
    rw (p.1, p.2) (tt)
