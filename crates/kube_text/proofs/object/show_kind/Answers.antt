use Rattle.kube_model.proofs.Results.{on_err}
use Rattle.kube_text.proofs.object.show_kind.Goals as goal

pub returns-in_err-member-in-Some-clause-front : goal.returns-in_err-member-in-Some-clause-front
returns-in_err-member-in-Some-clause-front c rest =
    rw c.in-Some.is (on_err _ _ (c.in_err-member-in-Some.ensures.front rest))
