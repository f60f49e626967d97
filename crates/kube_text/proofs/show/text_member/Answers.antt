use Rattle.kube_text.proofs.Fronts.{value_front, none_shown}
use Rattle.kube_model.proofs.Results.{on_err}
use Rattle.kube_text.proofs.show.text_member.Goals as goal

pub returns-in_err-string-clause-front : goal.returns-in_err-string-clause-front
returns-in_err-string-clause-front c rest = on_err _ _ (value_front _ _ _ _ _ _ c.in_ok-key.ensures.ok (none_shown _ _ _ c.in_err-string.ensures.err))
