use Rattle.kube_text.proofs.Fronts.{value_front}
use Rattle.kube_model.proofs.Results.{on_err}
use Rattle.kube_text.proofs.show.member.Goals as goal

pub returns-in_err-show-clause-front : goal.returns-in_err-show-clause-front
returns-in_err-show-clause-front g c rest = on_err _ _ (value_front _ _ _ _ _ _ c.in_ok-key.ensures.ok c.in_err-show.ensures.front)
