use Rattle.std.proofs.Common.{Some, None, is_some, option_map, option_copied, sym, ap, ◌∙◌}
use Rattle.std.proofs.lemmas.Result.{err_from_is_err_and}
use Rattle.std.specs.Arc.{arc_value}
use Rattle.kube_model.specs.Store.{found}
use Rattle.kube_turn.specs.Views.{message_of}
use Rattle.kube_history.specs.CoreEvents.{next_candidate}
use Rattle.kube_core.proofs.TakenSteps.{look}
use Rattle.kube_core.proofs.taking.next_object.Goals as goal

pub returns-in_default-clause-found : goal.returns-in_default-clause-found
returns-in_default-clause-found g c core store qs rs s e =
    let type_of = g.K.Resource.type_of in
    ap (λ o. option_map (λ m. found core.key store m.reference) (option_map (message_of type_of) (option_copied o))) (sym c.in_default.is)
    ∙ ap (option_map (λ m. found core.key store m.reference)) (c.candidate.ensures core qs rs s)

pub returns-in_default-get-clause-found : goal.returns-in_default-get-clause-found
returns-in_default-get-clause-found g c core store qs rs s e =
    let type_of = g.K.Resource.type_of in
    look core.key store c.args.cache.now (message_of type_of c.in-Some.request.now) (next_candidate core qs rs) None
    (ap (λ o. option_map (message_of type_of) (option_copied o)) (sym c.in-Some.is) ∙ c.candidate.ensures core qs rs s) e
    (ap (λ o. option_map arc_value (option_copied o)) (sym c.in_default-get.is) ∙ c.get.ensures)

pub returns-clause-found : goal.returns-clause-found
returns-clause-found g c core store qs rs s e =
    let type_of = g.K.Resource.type_of in
    ap (λ a. Some (Some a)) c.in_ok-share.ensures
    ∙ look core.key store c.args.cache.now (message_of type_of c.in-Some.request.now) (next_candidate core qs rs) (Some (arc_value c.in-Some-get.object.now))
    (ap (λ o. option_map (message_of type_of) (option_copied o)) (sym c.in-Some.is) ∙ c.candidate.ensures core qs rs s) e
    (ap (λ o. option_map arc_value (option_copied o)) (sym c.in-Some-get.is) ∙ c.get.ensures)

pub returns-in_err-share-clause-wanted : goal.returns-in_err-share-clause-wanted
returns-in_err-share-clause-wanted g c =
    let type_of = g.K.Resource.type_of in
    let p = err_from_is_err_and c.from_residual.result c.from_residual.ensures.1 in
    rw p.1 (λ core qs rs s. ap is_some (sym (c.candidate.ensures core qs rs s) ∙ ap (λ o. option_map (message_of type_of) (option_copied o)) c.in-Some.is))
