use Rattle.std.proofs.Common.{map, sym, ap, ◌∙◌}
use Rattle.std.proofs.lemmas.List.{map-id}
use Rattle.std.proofs.lemmas.Iterator.Adapters.{YieldsList-from_vec}
use Rattle.std.proofs.lemmas.Iterator.Consumers.{YieldsList-end}
use Rattle.kube_turn.specs.Results.{finish_came}
use Rattle.kube_turn.proofs.results.all_finished.Goals as goal

pub returns : goal.returns
returns g c =
    let gives = c.into_iter-finish-iterator.ensures.into_iter_gives in
    let items = c.from-finish-items.ensures in
    let whole = YieldsList-end (YieldsList-from_vec {s = c.into_iter-finish-iterator.result} c.from-finish-items.result.items gives.0 (gives.1 ∙ c.from-finish-items.result.ok.0)) c.loop-finish.yielded c.loop-finish.finish-iterator c.loop-finish.yielded_by _ c.next.new.self c.in-None.is c.next.ensures.steps in
    c.loop-finish.invariant ∙ ap (map (finish_came g.K.Resource.type_of)) (sym (map-id c.loop-finish.yielded) ∙ whole.0 ∙ items)
