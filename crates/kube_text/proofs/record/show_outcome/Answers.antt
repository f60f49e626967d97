use Rattle.kube_text.proofs.Fronts.{none_shown, value_front}
use Rattle.kube_model.proofs.Results.{on_err}
use Rattle.kube_text.proofs.record.show_outcome.Goals as goal

pub returns-in_err-null-in-Ok-clause-front : goal.returns-in_err-null-in-Ok-clause-front
returns-in_err-null-in-Ok-clause-front c rest =
    rw c.in-Ok.is (on_err _ _ (value_front _ _ _ _ _ rest c.in_ok-key-in-Ok.ensures.ok (none_shown _ _ _ c.in_err-null-in-Ok.ensures.err)))

pub returns-in_err-member-in-Err-clause-front : goal.returns-in_err-member-in-Err-clause-front
returns-in_err-member-in-Err-clause-front c rest =
    rw c.in-Err.is (on_err _ _ (c.in_err-member-in-Err.ensures.front rest))
