use Rattle.std.proofs.Common.{◌≡◌, subst}
use Rattle.kube_model.specs.Queue.{entry}
use Rattle.kube_model.specs.WaitingOnce.{is_frozen}
use Rattle.kube_sched.specs.Schedule.{Stands}
use Rattle.kube_sched.specs.Polls.{Stream}
use Rattle.kube_sched.proofs.scheduled.Scheduled.contains_pending.Goals as goal

pub returns : goal.returns
returns g c events stands =
    subst
    (λ (s : Stream g.row.T.Denot g.row.R.Denot). Stands g.T.PartialEq.eq s.schedule events → c.contains_pending.result ≡ is_frozen (entry g.T.PartialEq.eq s.schedule.debounce events c.args.m.now))
    c.self.view_is (c.contains_pending.ensures events) stands
