use Rattle.std.proofs.Common.{inr}
use Rattle.kube_model.proofs.Results.{on_err}
use Rattle.kube_lease.proofs.poll.send.Goals as goal

pub returns-clause-sent : goal.returns-clause-sent
returns-clause-sent g c =
    let e = c.in_ok-answer.ensures in
    record {
      moved = rw c.as_str.ensures at e.moves;
      told = rw c.as_str.ensures at e.grows;
      refused = rw c.as_str.ensures at e.refused;
      not_memory = e.no_memory;
      kept = e.stays;
      rose = e.faults;
    }

pub returns-in_err-answer-clause-unasked : goal.returns-in_err-answer-clause-unasked
returns-in_err-answer-clause-unasked g c =
    let e = c.in_err-answer.ensures in
    on_err c.from_residual.result _ (e.unchanged, e.kept, inr e.rests)
