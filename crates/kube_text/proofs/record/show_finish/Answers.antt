use Rattle.std.proofs.Common.{sym}
use Rattle.serde_json.specs.Data.{number, unsigned}
use Rattle.kube_text.specs.TraceText.{finish_members}
use Rattle.kube_text.proofs.Fronts.{later_shown}
use Rattle.kube_text.proofs.Shown.{same_option}
use Rattle.kube_model.proofs.Results.{on_err}
use Rattle.kube_text.proofs.record.show_finish.Goals as goal

pub returns-in_err-show_outcome-clause-front : goal.returns-in_err-show_outcome-clause-front
unfolding finish_members
returns-in_err-show_outcome-clause-front c rest =
    on_err _ _ (c.in_err-show_outcome.ensures.front _)

pub returns-in_err-member-clause-front : goal.returns-in_err-member-clause-front
unfolding finish_members
returns-in_err-member-clause-front c rest =
    on_err _ _
    (later_shown _ _ _ _ _ c.in_ok-show_outcome.ensures.members
    (c.in_err-member.ensures.front _))

pub returns-in_err-member-2-clause-front : goal.returns-in_err-member-2-clause-front
unfolding finish_members
returns-in_err-member-2-clause-front c rest =
    rw (sym c.requeue_after.ensures, sym (same_option (λ n. number (unsigned n)) c.requeue_after.result))
    (on_err _ _
    (later_shown _ _ _ _ _ c.in_ok-show_outcome.ensures.members
    (later_shown _ _ _ _ _ c.in_ok-member.ensures.members
    (c.in_err-member-2.ensures.front _))))
