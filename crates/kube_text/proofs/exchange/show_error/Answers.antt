use Rattle.std.proofs.Common.{sym}
use Rattle.kube_model.proofs.Results.{on_err}
use Rattle.kube_text.proofs.exchange.show_error.Goals as goal

pub returns-in_err-text_member-clause-front : goal.returns-in_err-text_member-clause-front
returns-in_err-text_member-clause-front c rest =
    rw (c.in-Some.is, sym c.error_word.ensures) (on_err _ _ (c.in_err-text_member.ensures.front rest))
