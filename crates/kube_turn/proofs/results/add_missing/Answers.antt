use Rattle.std.proofs.Common.{◌++◌, map, sym, ap, ◌∙◌}
use Rattle.std.specs.List.{filter_map}
use Rattle.std.proofs.lemmas.List.{map-id}
use Rattle.std.proofs.lemmas.Iterator.Adapters.{YieldsList-from_vec}
use Rattle.std.proofs.lemmas.Iterator.Consumers.{YieldsList-end}
use Rattle.kube_turn.specs.Results.{came_of, missing}
use Rattle.kube_turn.proofs.Kept.{kept-one}
use Rattle.kube_turn.proofs.results.add_missing.Goals as goal

pub loop-one-preserved : goal.loop-one-preserved
loop-one-preserved g c = kept-one (missing g.K.Resource.type_of) (map came_of c.args.results.items) (map came_of c.loop-one.results.items) _ c.loop-one.yielded c.in-Some.one c.loop-one.invariant c.in_ok-results.ensures

pub returns : goal.returns
returns g c =
    let gives = c.into_iter-one-iterator.ensures.into_iter_gives in
    let items = c.from-one-items.ensures in
    let whole = YieldsList-end (YieldsList-from_vec {s = c.into_iter-one-iterator.result} c.from-one-items.result.items gives.0 (gives.1 ∙ c.from-one-items.result.ok.0)) c.loop-one.yielded c.loop-one.one-iterator c.loop-one.yielded_by _ c.next.new.self c.in-None.is c.next.ensures.steps in
    c.loop-one.invariant ∙ ap (λ xs. map came_of c.args.results.items ++ filter_map (missing g.K.Resource.type_of) xs) (sym (map-id c.loop-one.yielded) ∙ whole.0 ∙ items)
