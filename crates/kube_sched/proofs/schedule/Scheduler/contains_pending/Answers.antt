use Rattle.std.proofs.Common.{ap, ◌∙◌}
use Rattle.std.specs.List.{list_any}
use Rattle.kube_sched.specs.Held.{is_of}
use Rattle.kube_sched.specs.Schedule.{Schedule}
use Rattle.kube_sched.proofs.Steps.{stands-pending}
use Rattle.kube_sched.proofs.schedule.Scheduler.contains_pending.Goals as goal

pub returns : goal.returns
returns g c events stands =
    c.waits.ensures
    ∙ ap (λ (s : Schedule g.row.T.Denot). list_any (is_of g.T.PartialEq.eq c.args.m.now) s.waiting) c.self.view_is
    ∙ stands-pending g.T.PartialEq.eq g.met.T.Eq.laws c.args.self.now events stands c.args.m.now
