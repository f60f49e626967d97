use Rattle.std.proofs.Common.{sym, refl, ◌∙◌}
use Rattle.kube_final.specs.Waits.{next_probed}
use Rattle.kube_final.proofs.WaitLosses.{whatever_came}
use Rattle.kube_final.proofs.delete.DeleteAndFinalize.wait.Goals as goal

pub returns-clause-awaited : goal.returns-clause-awaited
returns-clause-awaited g c =
    let same = c.is_deleted.ensures ∙ c.as_str.ensures in
    rw (← c.self.view_is) (record {
      found = next_probed c.in_ok-answer.answer;
      awaited = rw same at c.in_ok-answer.ensures.awaited;
      ends = sym c.ended-answer.ensures;
      keeps = refl;
    })

pub returns-in_err-answer-clause-lost : goal.returns-in_err-answer-clause-lost
returns-in_err-answer-clause-lost g c =
    let same = c.is_deleted.ensures ∙ c.as_str.ensures in
    whatever_came c.from_residual.result _ (rw (← c.self.view_is) (rw same at c.in_err-answer.ensures.lost))
