use Rattle.std.proofs.Common.{is_some, option_map, option_copied, refl, sym, ap, ◌∙◌}
use Rattle.std.proofs.lemmas.Result.{err_from_is_err_and}
use Rattle.kube_turn.specs.Views.{message_of}
use Rattle.kube_feed.proofs.takes.next_object.Goals as goal

pub returns-in_default-clause-looked_up : goal.returns-in_default-clause-looked_up
returns-in_default-clause-looked_up g c core qs rs s = (
  sym (c.candidate.ensures core qs rs s) ∙ ap (λ o. option_map (message_of g.K.Resource.type_of) (option_copied o)) c.in_default.is,
  refl,
)

pub returns-clause-looked_up : goal.returns-clause-looked_up
returns-clause-looked_up g c core qs rs s = (
  message_of g.K.Resource.type_of c.in-Some.request.now,
  sym (c.candidate.ensures core qs rs s) ∙ ap (λ o. option_map (message_of g.K.Resource.type_of) (option_copied o)) c.in-Some.is,
  record {
    read = record { same = record { book = c.in_ok-found.ensures.own.0; kind = c.in_ok-found.ensures.own.1; later = c.in_ok-found.ensures.later }; readable = c.in_ok-found.ensures.readable };
    object = c.in_ok-found.ensures.read;
  },
)

pub returns-in_err-found-clause-wanted : goal.returns-in_err-found-clause-wanted
returns-in_err-found-clause-wanted g c =
    let p = err_from_is_err_and c.from_residual.result c.from_residual.ensures.1 in
    rw p.1 (λ core qs rs s. ap is_some (sym (c.candidate.ensures core qs rs s) ∙ ap (λ o. option_map (message_of g.K.Resource.type_of) (option_copied o)) c.in-Some.is))
