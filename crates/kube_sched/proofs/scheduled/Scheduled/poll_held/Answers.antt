use Rattle.std.specs.Fn.{FnReturnsAt}
use Rattle.kube_sched.specs.Schedule.{passes_none}
use Rattle.kube_sched.proofs.Polls.{polled-ok}
use Rattle.kube_sched.proofs.scheduled.Scheduled.poll_held.Goals as goal

pub returns-clause-polled : goal.returns-clause-polled
returns-clause-polled g c =
    polled-ok (FnReturnsAt _ _) passes_none (λ m b h. h.says.met) g.T.PartialEq.eq g.R.Requests.told c.args.now c.args.fuel _ _ c.poll_passing.result c.poll_passing.ensures.polled
