use Rattle.kube_model.proofs.Results.{on_err}
use Rattle.kube_text.proofs.refusal.show_members.Goals as goal

pub returns-in_ok-show_script-in-TooLong-clause-members : goal.returns-in_ok-show_script-in-TooLong-clause-members
returns-in_ok-show_script-in-TooLong-clause-members c rest = rw c.in-TooLong.is (c.in_ok-show_script-in-TooLong.ensures.members rest)

pub returns-in_ok-show_placed-in-Fraction-clause-members : goal.returns-in_ok-show_placed-in-Fraction-clause-members
returns-in_ok-show_placed-in-Fraction-clause-members c rest = rw c.in-Fraction.is (c.in_ok-show_placed-in-Fraction.ensures.members rest)

pub returns-in_ok-show_finish-in-NotRunning-clause-members : goal.returns-in_ok-show_finish-in-NotRunning-clause-members
returns-in_ok-show_finish-in-NotRunning-clause-members c rest = rw c.in-NotRunning.is (c.in_ok-show_finish-in-NotRunning.ensures.members rest)

pub returns-in_err-text_member-in-Usage-clause-front : goal.returns-in_err-text_member-in-Usage-clause-front
returns-in_err-text_member-in-Usage-clause-front c rest =
    rw c.in-Usage.is (on_err _ _ (c.in_err-text_member-in-Usage.ensures.front rest))

pub returns-in_err-show_script-in-TooLong-clause-front : goal.returns-in_err-show_script-in-TooLong-clause-front
returns-in_err-show_script-in-TooLong-clause-front c rest =
    rw c.in-TooLong.is (on_err _ _ (c.in_err-show_script-in-TooLong.ensures.front rest))

pub returns-in_err-show_script-in-Syntax-clause-front : goal.returns-in_err-show_script-in-Syntax-clause-front
returns-in_err-show_script-in-Syntax-clause-front c rest =
    rw c.in-Syntax.is (on_err _ _ (c.in_err-show_script-in-Syntax.ensures.front rest))

pub returns-in_err-show_placed-in-Shape-clause-front : goal.returns-in_err-show_placed-in-Shape-clause-front
returns-in_err-show_placed-in-Shape-clause-front c rest =
    rw c.in-Shape.is (on_err _ _ (c.in_err-show_placed-in-Shape.ensures.front rest))

pub returns-in_err-show_placed-in-Fraction-clause-front : goal.returns-in_err-show_placed-in-Fraction-clause-front
returns-in_err-show_placed-in-Fraction-clause-front c rest =
    rw c.in-Fraction.is (on_err _ _ (c.in_err-show_placed-in-Fraction.ensures.front rest))

pub returns-in_err-show_turn-in-Moment-clause-front : goal.returns-in_err-show_turn-in-Moment-clause-front
returns-in_err-show_turn-in-Moment-clause-front c rest =
    rw c.in-Moment.is (on_err _ _ (c.in_err-show_turn-in-Moment.ensures.front rest))

pub returns-in_err-show_finish-in-NotRunning-clause-front : goal.returns-in_err-show_finish-in-NotRunning-clause-front
returns-in_err-show_finish-in-NotRunning-clause-front c rest =
    rw c.in-NotRunning.is (on_err _ _ (c.in_err-show_finish-in-NotRunning.ensures.front rest))

pub returns-in_err-show_finish-in-Twice-clause-front : goal.returns-in_err-show_finish-in-Twice-clause-front
returns-in_err-show_finish-in-Twice-clause-front c rest =
    rw c.in-Twice.is (on_err _ _ (c.in_err-show_finish-in-Twice.ensures.front rest))

pub returns-in_err-show_unnamed-in-Unnamed-clause-front : goal.returns-in_err-show_unnamed-in-Unnamed-clause-front
returns-in_err-show_unnamed-in-Unnamed-clause-front c rest =
    rw c.in-Unnamed.is (on_err _ _ (c.in_err-show_unnamed-in-Unnamed.ensures.front rest))
