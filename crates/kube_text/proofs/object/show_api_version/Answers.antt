use Rattle.kube_model.proofs.Results.{on_err}
use Rattle.kube_text.proofs.object.show_api_version.Goals as goal

pub returns-in_ok-member-in-Some-clause-members : goal.returns-in_ok-member-in-Some-clause-members
returns-in_ok-member-in-Some-clause-members c rest = rw c.in-Some.is (c.in_ok-member-in-Some.ensures.members rest)

pub returns-in_err-member-in-Some-clause-front : goal.returns-in_err-member-in-Some-clause-front
returns-in_err-member-in-Some-clause-front c rest =
    rw c.in-Some.is (on_err _ _ (c.in_err-member-in-Some.ensures.front rest))
