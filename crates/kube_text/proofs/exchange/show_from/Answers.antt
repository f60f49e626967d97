use Rattle.std.proofs.Common.{sym}
use Rattle.serde_json.specs.Data.{string}
use Rattle.kube_text.proofs.Fronts.{later_shown}
use Rattle.kube_text.proofs.Shown.{same_option}
use Rattle.kube_model.proofs.Results.{on_err}
use Rattle.kube_text.proofs.exchange.show_from.Goals as goal

pub returns-in_err-member-in-List-clause-front : goal.returns-in_err-member-in-List-clause-front
returns-in_err-member-in-List-clause-front c rest =
    rw (c.in-List.is, sym (same_option string c.in-List.token)) (on_err _ _ (c.in_err-member-in-List.ensures.front rest))

pub returns-in_err-member-in-Watch-clause-front : goal.returns-in_err-member-in-Watch-clause-front
returns-in_err-member-in-Watch-clause-front c rest =
    rw c.in-Watch.is (on_err _ _ (c.in_err-member-in-Watch.ensures.front _))

pub returns-in_err-member-in-Watch-2-clause-front : goal.returns-in_err-member-in-Watch-2-clause-front
returns-in_err-member-in-Watch-2-clause-front c rest =
    rw c.in-Watch.is (on_err _ _ (later_shown _ _ _ _ _ c.in_ok-member-in-Watch.ensures.members (c.in_err-member-in-Watch-2.ensures.front _)))
