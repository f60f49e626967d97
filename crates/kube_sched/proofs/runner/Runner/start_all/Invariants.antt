use Rattle.std.proofs.Common.{◌+◌}
use Rattle.std.specs.Fn.{CalledAt, always_mut}
use Rattle.kube_sched.specs.Schedule.{held_len}
use Rattle.kube_sched.proofs.Runs.{Starting}
use Rattle.kube_sched.proofs.runner.Runner.start_all.Given as goal

-- what is started from here on is started after these
abbrev pub invariant-loop-answer : goal.invariant-loop-answer
invariant-loop-answer g l =
    record {
      starting : Starting g.T.PartialEq.eq g.R.Requests.told (CalledAt g.MkF.FnMut) l.now l.fn.fuel l.fn.self l.left l.self;
      call : always_mut g.MkF.FnMut l.self.makes;
    }

abbrev pub decreases-loop-answer : goal.decreases-loop-answer
decreases-loop-answer g l = held_len l.self.scheduler.schedule + l.left
