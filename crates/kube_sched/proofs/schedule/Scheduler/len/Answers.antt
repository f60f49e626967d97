use Rattle.std.proofs.Common.{◌+◌, length, ap, ◌∙◌}
use Rattle.kube_sched.specs.Schedule.{Schedule}
use Rattle.kube_sched.proofs.Steps.{stands-len}
use Rattle.kube_sched.proofs.schedule.Scheduler.len.Goals as goal

pub returns : goal.returns
returns g c events stands =
    c.len.ensures
    ∙ ap (λ (s : Schedule g.row.T.Denot). length s.waiting + length s.scheduled) c.self.view_is
    ∙ stands-len g.T.PartialEq.eq g.met.T.Eq.laws c.args.self.now events stands
