use Rattle.kube_watch.specs.Objects.{found_of}
use Rattle.kube_final.proofs.WaitLaws.{fewer, standing}
use Rattle.kube_final.proofs.WaitLosses.{lost_taking, whatever_came}
use Rattle.kube_final.proofs.wait.take_end.Goals as goal

pub loop-answer-smaller-else-ends : goal.loop-answer-smaller-else-ends
loop-answer-smaller-else-ends g c =
    fewer c.loop-answer.watch (found_of c.in-Some.answer) c.take_next.new.watch (standing c.loop-answer.watch c.in_ok-answer.ensures.unspent c.loop-answer.invariant.live) (rw c.in-Some.is at c.in_ok-answer.ensures.taken)

pub loop-answer-smaller-else-ends-2 : goal.loop-answer-smaller-else-ends-2
loop-answer-smaller-else-ends-2 g c =
    fewer c.loop-answer.watch (found_of c.in-Some.answer) c.take_next.new.watch (standing c.loop-answer.watch c.in_ok-answer.ensures.unspent c.loop-answer.invariant.live) (rw c.in-Some.is at c.in_ok-answer.ensures.taken)

pub returns-in_err-answer-clause-lost : goal.returns-in_err-answer-clause-lost
returns-in_err-answer-clause-lost g c =
    whatever_came c.from_residual.result _ (lost_taking (g.C.Condition.says c.args.condition.now) c.args.watch.now c.loop-answer.watch c.requires.live c.loop-answer.invariant c.in_err-answer.ensures.lost)
