use Rattle.std.proofs.Common.{◌++◌, map, sym, ap, ◌∙◌}
use Rattle.std.specs.List.{filter_map}
use Rattle.std.specs.Option.{option_map, option_to_list}
use Rattle.std.proofs.lemmas.List.{map-id}
use Rattle.std.proofs.lemmas.Iterator.Adapters.{YieldsList-from_vec}
use Rattle.std.proofs.lemmas.Iterator.Consumers.{YieldsList-end}
use Rattle.kube_turn.specs.Results.{came_of, Queue}
use Rattle.kube_turn.proofs.Kept.{kept-one}
use Rattle.kube_turn.proofs.results.add_errors.Goals as goal

pub loop-exchange-preserved : goal.loop-exchange-preserved
loop-exchange-preserved g c = kept-one (λ x. option_map Queue x.error) (map came_of c.args.results.items) (map came_of c.loop-exchange.results.items) _ c.loop-exchange.yielded c.in-Some.exchange c.loop-exchange.invariant
    (c.in_ok-results.ensures ∙ ap (λ e. map came_of c.loop-exchange.results.items ++ option_to_list (option_map Queue e)) c.error_of.ensures)

pub returns : goal.returns
returns g c =
    let gives = c.into_iter-exchange-iterator.ensures.into_iter_gives in
    let items = c.from-exchange-items.ensures in
    let whole = YieldsList-end (YieldsList-from_vec {s = c.into_iter-exchange-iterator.result} c.from-exchange-items.result.items gives.0 (gives.1 ∙ c.from-exchange-items.result.ok.0)) c.loop-exchange.yielded c.loop-exchange.exchange-iterator c.loop-exchange.yielded_by _ c.next.new.self c.in-None.is c.next.ensures.steps in
    c.loop-exchange.invariant ∙ ap (λ xs. map came_of c.args.results.items ++ filter_map (λ x. option_map Queue x.error) xs) (sym (map-id c.loop-exchange.yielded) ∙ whole.0 ∙ items)
