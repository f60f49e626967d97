use Rattle.std.proofs.Common.{ap}
use Rattle.kube_sched.specs.Schedule.{Schedule, with_request}
use Rattle.kube_sched.proofs.Steps.{stands-alike}
use Rattle.kube_sched.proofs.schedule.Scheduler.take_in.Goals as goal

pub returns-clause-stands : goal.returns-clause-stands
returns-clause-stands g c events stands =
    let debounce = λ (s : Schedule g.row.T.Denot). s.debounce in
    let waiting = λ (s : Schedule g.row.T.Denot). s.waiting in
    let scheduled = λ (s : Schedule g.row.T.Denot). s.scheduled in
    let same = c.reserve.ensures.same in
    let reserved =
    stands-alike g.T.PartialEq.eq c.args.self.now c.reserve.new.self events (ap debounce same) (ap waiting same) (ap scheduled same) stands in
    stands-alike g.T.PartialEq.eq c.take_in_reserved.new.self _ (with_request events c.args.request c.args.now)
    (ap debounce c.self.view_is) (ap waiting c.self.view_is) (ap scheduled c.self.view_is)
    (c.take_in_reserved.ensures.stands events reserved)
