use Rattle.std.proofs.Common.{length}
use Rattle.kube_watch.specs.Objects.{answers_in}
use Rattle.kube_final.proofs.wait.take_end.Given as goal
use Rattle.kube_final.proofs.WaitLoops.{IsTaking}

abbrev pub invariant-loop-answer : goal.invariant-loop-answer
invariant-loop-answer g l = IsTaking (g.C.Condition.says l.condition) l.initial.watch l.watch

abbrev pub decreases-loop-answer : goal.decreases-loop-answer
decreases-loop-answer g l = length (answers_in l.watch)
