use Rattle.std.proofs.Common.{sym}
use Rattle.kube_model.proofs.Results.{on_err}
use Rattle.kube_text.proofs.exchange.show_text.Goals as goal

pub returns-in_err-text_member-clause-front : goal.returns-in_err-text_member-clause-front
returns-in_err-text_member-clause-front c rest =
    rw (c.in-Fault.is, sym c.fault_text.ensures) (on_err _ _ (c.in_err-text_member.ensures.front rest))
