use Rattle.std.proofs.Common.{◌≡◌, ◌++◌, ◌∷◌, ◌+◌, ◌<◌, ◌^◌, [], List, None, map, length, refl, sym, ap, subst, ◌∙◌}
use Rattle.std.proofs.lemmas.List.{map-append}
use Rattle.std.proofs.lemmas.Result.{err_from_is_err_and}
use Rattle.std.specs.Option.{option_map}
use Rattle.kube_history.specs.CoreEvents.{Answered}
use Rattle.kube_model.specs.History.{dated, exchanges}
use Rattle.kube_model.specs.Turns.{next_source}
use Rattle.kube_turn.specs.Views.{exchange_of}
use Rattle.kube_step.specs.Asked.{AreAsked, IsAsked}
use Rattle.kube_step.proofs.Asking.{asked-push, asked-end, ended-lost, ended-until, given-lost, given-more, left-is, none-is}
use Rattle.kube_step.proofs.sources.ask_all.Goals as goal

pub loop-all-preserved : goal.loop-all-preserved
loop-all-preserved g c =
    let e = c.in_ok-exchange.ensures in
    let i = c.loop-all.invariant in
    let f = exchange_of g.R.Object.Resource.type_of in
    record {
      few = subst (λ (z : List _). length z + 1 < 2 ^ 32) (sym e.feeds) i.few;
      root = e.root;
      related = e.related;
      feeds = e.feeds ∙ i.feeds;
      clock = e.clock;
      handles = record { book = e.handles.book ∙ i.handles.book; readers = e.handles.readers ∙ i.handles.readers; shown = e.handles.shown ∙ i.handles.shown };
      asked = λ w h t es at may.
          let k = i.asked w h t es at may in
          let xs = map f c.loop-all.all.items in
          let one = subst (λ o. IsAsked g.R.RootSource g.S.RelatedSet g.B.Backoff g.R.Object.Resource w h t xs (es ++ map (Answered t.at) xs) c.loop-all.asks (option_map f o) c.ask_one.new.asks c.ask_one.new.core) c.in-Some.is
          (e.asked w h t xs (es ++ map (Answered t.at) xs) at k.may) in
          subst (λ ys. AreAsked g.R.RootSource g.S.RelatedSet g.B.Backoff g.R.Object.Resource w h t es c.args.asks.now ys c.ask_one.new.asks c.ask_one.new.core)
          (sym (ap (map f) (c.push_reserved.ensures.items ∙ ap (λ zs. zs ++ c.in-Some.exchange ∷ []) c.make_place.ensures.items) ∙ map-append f c.loop-all.all.items (c.in-Some.exchange ∷ [])))
          (asked-push g.R.RootSource g.S.RelatedSet g.B.Backoff g.R.Object.Resource w h t es c.args.asks.now xs c.loop-all.asks c.loop-all.core (f c.in-Some.exchange) c.ask_one.new.asks c.ask_one.new.core k one);
    }

pub returns-in-None-clause-asked : goal.returns-in-None-clause-asked
returns-in-None-clause-asked g c w h t es at may =
    let f = exchange_of g.R.Object.Resource.type_of in
    let k = c.loop-all.invariant.asked w h t es at may in
    let xs = map f c.loop-all.all.items in
    let one = subst (λ o. IsAsked g.R.RootSource g.S.RelatedSet g.B.Backoff g.R.Object.Resource w h t xs (es ++ map (Answered t.at) xs) c.loop-all.asks (option_map f o) c.ask_one.new.asks c.ask_one.new.core) c.in-None.is
    (c.in_ok-exchange.ensures.asked w h t xs (es ++ map (Answered t.at) xs) at k.may) in
    subst (λ ys. AreAsked g.R.RootSource g.S.RelatedSet g.B.Backoff g.R.Object.Resource w h t es c.args.asks.now (map f ys) c.ask_one.new.asks c.ask_one.new.core × (next_source w h t (map f ys) ≡ None)) (sym (c.from-in-None.ensures ∙ c.make_place.ensures.items))
    (asked-end g.R.RootSource g.S.RelatedSet g.B.Backoff g.R.Object.Resource w h t es c.args.asks.now xs c.loop-all.asks c.loop-all.core c.ask_one.new.asks c.ask_one.new.core k one.1 one.2 one.3, one.0)

pub returns-in_err-exchange-clause-ended : goal.returns-in_err-exchange-clause-ended
returns-in_err-exchange-clause-ended g c =
    let p = err_from_is_err_and c.from_residual-in_err-exchange.result c.from_residual-in_err-exchange.ensures.1 in
    rw (p.1, p.2) (λ w h t es at may.
    let k = c.loop-all.invariant.asked w h t es at may in
    let xs = map (exchange_of g.R.Object.Resource.type_of) c.loop-all.all.items in
    ended-until g.R.RootSource g.S.RelatedSet g.B.Backoff g.R.Object.Resource w h t c.in_err-exchange.field-0.0 es [] c.args.asks.now.root c.args.asks.now.related c.ask_one.new.asks.root c.ask_one.new.asks.related c.ask_one.new.core may.answers
    (given-more g.R.RootSource g.S.RelatedSet g.B.Backoff g.R.Object.Resource w h t c.in_err-exchange.field-0.0 es c.args.asks.now xs c.loop-all.asks c.loop-all.core c.ask_one.new.asks.root c.ask_one.new.asks.related k c.ask_one.new.core
    (c.in_err-exchange.ensures.left w h t xs (es ++ map (Answered t.at) xs) at k.may)))

pub returns-in_err-exchange-clause-left : goal.returns-in_err-exchange-clause-left
returns-in_err-exchange-clause-left g c =
    let p = err_from_is_err_and c.from_residual-in_err-exchange.result c.from_residual-in_err-exchange.ensures.1 in
    rw (p.1, p.2) (λ w h t es at may.
    let k = c.loop-all.invariant.asked w h t es at may in
    let xs = map (exchange_of g.R.Object.Resource.type_of) c.loop-all.all.items in
    given-more g.R.RootSource g.S.RelatedSet g.B.Backoff g.R.Object.Resource w h t c.in_err-exchange.field-0.0 es c.args.asks.now xs c.loop-all.asks c.loop-all.core c.ask_one.new.asks.root c.ask_one.new.asks.related k c.ask_one.new.core
    (c.in_err-exchange.ensures.left w h t xs (es ++ map (Answered t.at) xs) at k.may))

-- all that were made, where none is left to make
pub returns-then-not-has_place-clause-asked : goal.returns-then-not-has_place-clause-asked
returns-then-not-has_place-clause-asked g c w h t es at may =
    let f = exchange_of g.R.Object.Resource.type_of in
    let k = c.loop-all.invariant.asked w h t es at may in
    let xs = map f c.loop-all.all.items in
    subst (λ zs. AreAsked g.R.RootSource g.S.RelatedSet g.B.Backoff g.R.Object.Resource w h t es c.args.asks.now (map f zs) c.loop-all.asks c.loop-all.core × (next_source w h t (map f zs) ≡ None)) (sym (c.from.ensures ∙ c.make_place.ensures.items)) (
      k,
      none-is g.R.RootSource g.S.RelatedSet g.B.Backoff g.R.Object.Resource w h t xs (es ++ map (Answered t.at) xs) c.loop-all.asks c.loop-all.core k.may c.loop-all.asks c.args.now.0 at
          (c.in_ok-has_place.ensures.done c.if-not-has_place.true w t.budget (exchanges h) (dated t.at xs) k.may.world k.may.asks_stand),
    )

-- a source was left to ask
pub returns-in_err-has_place-clause-ended : goal.returns-in_err-has_place-clause-ended
returns-in_err-has_place-clause-ended g c =
    let p = err_from_is_err_and c.from_residual.result c.from_residual.ensures.1 in
    rw (p.1, p.2) (λ w h t es at may.
    let k = c.loop-all.invariant.asked w h t es at may in
    let xs = map (exchange_of g.R.Object.Resource.type_of) c.loop-all.all.items in
    ended-lost g.R.RootSource g.S.RelatedSet g.B.Backoff g.R.Object.Resource w h t es c.args.asks.now xs c.loop-all.asks c.loop-all.core k
    (left-is g.R.RootSource g.S.RelatedSet g.B.Backoff g.R.Object.Resource w h t xs (es ++ map (Answered t.at) xs) c.loop-all.asks c.loop-all.core k.may c.loop-all.asks c.args.now.0 at
    (c.in_err-has_place.ensures.left w t.budget (exchanges h) (dated t.at xs) k.may.world k.may.asks_stand))
    c.loop-all.core.writer.kept refl)

pub returns-in_err-has_place-clause-left : goal.returns-in_err-has_place-clause-left
returns-in_err-has_place-clause-left g c =
    let p = err_from_is_err_and c.from_residual.result c.from_residual.ensures.1 in
    rw (p.1, p.2) (λ w h t es at may.
    let k = c.loop-all.invariant.asked w h t es at may in
    let xs = map (exchange_of g.R.Object.Resource.type_of) c.loop-all.all.items in
    given-lost g.R.RootSource g.S.RelatedSet g.B.Backoff g.R.Object.Resource w h t es c.args.asks.now xs c.loop-all.asks c.loop-all.core k
    (left-is g.R.RootSource g.S.RelatedSet g.B.Backoff g.R.Object.Resource w h t xs (es ++ map (Answered t.at) xs) c.loop-all.asks c.loop-all.core k.may c.loop-all.asks c.args.now.0 at
    (c.in_err-has_place.ensures.left w t.budget (exchanges h) (dated t.at xs) k.may.world k.may.asks_stand)))
