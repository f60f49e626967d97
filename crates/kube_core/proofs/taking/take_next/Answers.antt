use Rattle.std.proofs.Common.{None, Some, option_map, sym, ap, ◌∙◌}
use Rattle.std.specs.Arc.{arc_value}
use Rattle.std.proofs.lemmas.Result.{IfOk-weaker, err_from_is_err_and}
use Rattle.kube_model.proofs.Results.{on_err}
use Rattle.kube_history.specs.CoreEvents.{next_candidate}
use Rattle.kube_core.proofs.TakenSteps.{none-looked, one-looked, some-found}
use Rattle.kube_core.proofs.taking.take_next.Goals as goal

pub returns-in_default-clause-first : goal.returns-in_default-clause-first
returns-in_default-clause-first g c core store qs rs s e =
    none-looked core.key store (next_candidate core qs rs) (ap (option_map (option_map arc_value)) (sym c.in_default.is) ∙ c.in_ok-found.ensures.found core store qs rs s e)

pub returns-in_default-found-clause-first : goal.returns-in_default-found-clause-first
returns-in_default-found-clause-first g c core store qs rs s e =
    c.take_missing.ensures.first core qs rs s
    ∙ one-looked core.key store None (next_candidate core qs rs)
    (ap (λ o. Some (option_map arc_value o)) (sym c.in_default-found.is) ∙ (ap (option_map (option_map arc_value)) (sym c.in-Some.is) ∙ c.in_ok-found.ensures.found core store qs rs s e))

pub returns-clause-first : goal.returns-clause-first
returns-clause-first g c =
    IfOk-weaker c.take_found.result _ _
    (λ t h core store qs rs s e.
    h core qs rs s
    ∙ one-looked core.key store (Some (arc_value c.in-Some-found.object)) (next_candidate core qs rs)
    (ap (λ o. Some (option_map arc_value o)) (sym c.in-Some-found.is) ∙ (ap (option_map (option_map arc_value)) (sym c.in-Some.is) ∙ c.in_ok-found.ensures.found core store qs rs s e)))
    c.take_found.ensures.first

pub returns-in_err-found-clause-wanted : goal.returns-in_err-found-clause-wanted
returns-in_err-found-clause-wanted g c =
    let p = err_from_is_err_and c.from_residual.result c.from_residual.ensures.1 in
    rw p.1 (λ core store qs rs s e. c.in_err-found.ensures.wanted core qs rs s)

pub returns-clause-wanted : goal.returns-clause-wanted
returns-clause-wanted g c =
    on_err c.take_found.result _
    (λ core store qs rs s e.
    some-found core.key store (Some (arc_value c.in-Some-found.object)) (next_candidate core qs rs)
    (ap (λ o. Some (option_map arc_value o)) (sym c.in-Some-found.is) ∙ (ap (option_map (option_map arc_value)) (sym c.in-Some.is) ∙ c.in_ok-found.ensures.found core store qs rs s e)))
