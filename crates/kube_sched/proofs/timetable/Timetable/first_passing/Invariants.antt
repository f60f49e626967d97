use Rattle.std.specs.Fn.{FnReturnsAt}
use Rattle.kube_sched.specs.Timetables.{waiting_of}
use Rattle.kube_sched.proofs.Lists.{NoneBefore}
use Rattle.kube_sched.proofs.timetable.Timetable.first_passing.Given as goal

-- none of those before passes
abbrev pub invariant-loop-place : goal.invariant-loop-place
invariant-loop-place g l = NoneBefore (FnReturnsAt g.C.Fn l.passes) l.place (waiting_of l.self)
