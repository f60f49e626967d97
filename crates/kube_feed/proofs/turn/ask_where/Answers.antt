use Rattle.std.proofs.Common.{◌++◌, ◌∷◌, [], map, sym, subst, ◌∙◌}
use Rattle.std.proofs.lemmas.Result.{err_from_is_err_and}
use Rattle.kube_model.specs.History.{dated, exchanges}
use Rattle.kube_model.specs.Queue.{Settled}
use Rattle.kube_model.specs.Requests.{requests_of_exchanges}
use Rattle.kube_model.specs.Turns.{running_in}
use Rattle.kube_history.specs.CoreWorld.{core_world}
use Rattle.kube_history.specs.TurnCalls.{with_requests}
use Rattle.kube_turn.specs.Views.{exchange_of}
use Rattle.kube_core.specs.Pendings.{Stands}
use Rattle.kube_feed.specs.Reads.{AreListed, IsLater}
use Rattle.kube_feed.specs.Requests.{bulk_requests, name_requests}
use Rattle.kube_feed.proofs.Asking.{ended-at-once}
use Rattle.kube_feed.proofs.Going.{asked-now, may-first, of-type, waits-first}
use Rattle.kube_feed.proofs.Reading.{later-none}
use Rattle.kube_feed.proofs.turn.ask_where.Goals as goal

pub returns-then-not-goes_on-clause-same : goal.returns-then-not-goes_on-clause-same
returns-then-not-goes_on-clause-same g c = later-none c.args.parts.now.reader

pub returns-clause-same : goal.returns-clause-same
returns-clause-same g c = subst (IsLater c.args.parts.now.reader) (sym c.settle.ensures.reader) c.in_ok-request_first.ensures.same

pub returns-clause-asked : goal.returns-clause-asked
returns-clause-asked g c goes w h t qs at reload on may =
    let type_of = g.R.Object.Resource.type_of in
    let core = core_world w in
    let rs = running_in w h t in
    let now = c.args.at.0 in
    let f = c.in_ok-request_first.ensures.requested in
    let kind = of-type g.R.RootSource g.S.RelatedSet g.B.Backoff g.R.Object.Resource w h t qs c.args.asks.now c.args.parts.now may _ c.dyntype.ensures in
    let waits = waits-first g.R.RootSource g.S.RelatedSet g.B.Backoff g.R.Object.Resource w h t qs c.args.asks.now c.args.parts.now may in
    let first =
    subst (λ n. Stands type_of core c.request_first.new.pending (with_requests qs n (bulk_requests w.key n f.0 ++ name_requests n t.on)) rs) (sym at)
    (subst (λ us. Stands type_of core c.request_first.new.pending (with_requests qs now (bulk_requests w.key now f.0 ++ name_requests now us)) rs) (sym on) (f.3 core qs rs kind waits)) in
    let xs = map (exchange_of type_of) c.in_ok-exchanges.exchanges in
    let Q1 = with_requests qs t.at (bulk_requests w.key t.at f.0 ++ name_requests t.at t.on) in
    let asked = c.in_ok-exchanges.ensures.asked w h t Q1 at (may-first g.R.RootSource g.S.RelatedSet g.B.Backoff g.R.Object.Resource w h t qs c.args.asks.now c.args.parts.now may f.0 c.request_first.new.pending first) in
    let Q2 = with_requests Q1 t.at (requests_of_exchanges t.at xs) in
    let settled = subst (λ n. Stands type_of core c.settle.new.parts.pending (Q2 ++ Settled n ∷ []) rs) (sym at) (c.settle.ensures.stands core Q2 rs asked.0.may.waits) in (
      f.0,
      asked-now g.R.RootSource g.S.RelatedSet g.B.Backoff g.R.Object.Resource w h t qs c.args.asks.now c.args.parts.now may f.0 c.request_first.new.pending first
          xs c.ask_all.new.asks c.ask_all.new.pending asked.0 asked.1 (f.2 ∙ sym reload) c.settle.new.parts
          (subst (AreListed g.R.Object.Resource.meta_of f.0 c.args.parts.now.reader) (sym c.settle.ensures.reader) f.1) c.settle.ensures.ready
          (c.settle.ensures.shut w t.budget (exchanges h) (dated t.at xs) asked.0.may.asks_stand) settled,
    )

pub returns-in_err-request_first-clause-ended : goal.returns-in_err-request_first-clause-ended
returns-in_err-request_first-clause-ended g c =
    let p = err_from_is_err_and c.from_residual.result c.from_residual.ensures.1 in
    rw (p.1, p.2) (
      c.if-not-goes_on.false,
      λ w h t qs at reload on may.
          ended-at-once g.R.RootSource g.S.RelatedSet g.B.Backoff g.R.Object.Resource w h t qs c.args.asks.now c.args.parts.now.pending may.asks,
    )

pub returns-in_err-exchanges-clause-ended : goal.returns-in_err-exchanges-clause-ended
returns-in_err-exchanges-clause-ended g c =
    let p = err_from_is_err_and c.from_residual-in_err-exchanges.result c.from_residual-in_err-exchanges.ensures.1 in
    rw (p.1, p.2) (
      c.if-not-goes_on.false,
      λ w h t qs at reload on may.
          let type_of = g.R.Object.Resource.type_of in
          let core = core_world w in
          let rs = running_in w h t in
          let now = c.args.at.0 in
          let f = c.in_ok-request_first.ensures.requested in
          let kind = of-type g.R.RootSource g.S.RelatedSet g.B.Backoff g.R.Object.Resource w h t qs c.args.asks.now c.args.parts.now may _ c.dyntype.ensures in
          let waits = waits-first g.R.RootSource g.S.RelatedSet g.B.Backoff g.R.Object.Resource w h t qs c.args.asks.now c.args.parts.now may in
          let first =
          subst (λ n. Stands type_of core c.request_first.new.pending (with_requests qs n (bulk_requests w.key n f.0 ++ name_requests n t.on)) rs) (sym at)
          (subst (λ us. Stands type_of core c.request_first.new.pending (with_requests qs now (bulk_requests w.key now f.0 ++ name_requests now us)) rs) (sym on) (f.3 core qs rs kind waits)) in
          c.in_err-exchanges.ensures.ended w h t (with_requests qs t.at (bulk_requests w.key t.at f.0 ++ name_requests t.at t.on)) at
          (may-first g.R.RootSource g.S.RelatedSet g.B.Backoff g.R.Object.Resource w h t qs c.args.asks.now c.args.parts.now may f.0 c.request_first.new.pending first),
    )
