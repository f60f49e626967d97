use Rattle.std.proofs.Common.{inl, inr}
use Rattle.kube_api.specs.ObjectTalk.{delete_answer}
use Rattle.kube_final.proofs.DeleteLosses.{comes_to}
use Rattle.kube_final.proofs.WaitLosses.{whatever_came}
use Rattle.kube_final.proofs.delete.ask.Goals as goal

pub returns-clause-lost : goal.returns-clause-lost
returns-clause-lost g c =
    let e = c.in_ok-answer.ensures in
    let d = comes_to g.O.Value.Resource.meta_of c.in_ok-answer.answer in
    whatever_came c.deletion_by.result _
    (inr (
      d.0,
      record {
        answer = delete_answer c.in_ok-answer.answer;
        moved = rw c.as_str.ensures at e.moves;
        told = rw c.as_str.ensures at e.grows;
        comes_to = d.1;
        missing = rw c.as_str.ensures at e.missing;
        kept = e.stays;
        rose = e.faults;
      },
    ))

pub returns-in_err-answer-clause-lost : goal.returns-in_err-answer-clause-lost
returns-in_err-answer-clause-lost g c =
    let e = c.in_err-answer.ensures in
    whatever_came c.from_residual.result _ (inl (e.unchanged, e.kept, inr e.rests))
