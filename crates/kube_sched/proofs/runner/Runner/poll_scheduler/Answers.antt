use Rattle.std.proofs.Common.{ap, ◌∙◌, ◌&&◌, not, is_some}
use Rattle.std.specs.Fn.{FnReturnsAt}
use Rattle.kube_sched.specs.Runs.{Runs, MayStart, has_room, runs}
use Rattle.kube_sched.proofs.Polls.{counted-ok, passes-ok}
use Rattle.kube_sched.proofs.Runs.{scheduler-lost}
use Rattle.kube_sched.proofs.runner.Runner.poll_scheduler.Goals as goal

pub returns-clause-polled : goal.returns-clause-polled
returns-clause-polled g c =
    let slots = ap (λ (r : Runs g.row.T.Denot g.row.R.Denot g.row.F.Denot g.row.MkF.Denot g.row.Ready.Denot). r.running) c.self.view_is in
    counted-ok _ (MayStart g.T.PartialEq.eq (not (is_some c.args.self.now.readiness) && has_room c.args.self.now.limit c.args.self.now.running) c.args.self.now.running)
    (λ m b h. h.says.met
    ∙ ap (λ k. c.may_start-may_start.result && not (runs g.T.PartialEq.eq k c.self.inside.slots)) h.shows
    ∙ ap (λ xs. c.may_start-may_start.result && not (runs g.T.PartialEq.eq m xs)) slots
    ∙ ap (λ a. a && not (runs g.T.PartialEq.eq m c.args.self.now.running)) c.may_start-may_start.ensures)
    g.T.PartialEq.eq g.R.Requests.told c.args.now c.args.fuel _ c.args.self.now.scheduler _ c.poll_counted.result
    (ap (λ (r : Runs g.row.T.Denot g.row.R.Denot g.row.F.Denot g.row.MkF.Denot g.row.Ready.Denot). r.scheduler) c.self.view_is) c.poll_counted.ensures.polled

pub returns-clause-passes : goal.returns-clause-passes
returns-clause-passes g c =
    let slots = ap (λ (r : Runs g.row.T.Denot g.row.R.Denot g.row.F.Denot g.row.MkF.Denot g.row.Ready.Denot). r.running) c.self.view_is in
    passes-ok (FnReturnsAt _ _) (MayStart g.T.PartialEq.eq (not (is_some c.args.self.now.readiness) && has_room c.args.self.now.limit c.args.self.now.running) c.args.self.now.running)
    (λ m b h. h.says.met
    ∙ ap (λ k. c.may_start-may_start.result && not (runs g.T.PartialEq.eq k c.self.inside.slots)) h.shows
    ∙ ap (λ xs. c.may_start-may_start.result && not (runs g.T.PartialEq.eq m xs)) slots
    ∙ ap (λ a. a && not (runs g.T.PartialEq.eq m c.args.self.now.running)) c.may_start-may_start.ensures)
    c.poll_counted.result c.poll_counted.ensures.passes

pub returns-clause-lost : goal.returns-clause-lost
returns-clause-lost g c =
    scheduler-lost g.T.PartialEq.eq g.R.Requests.told c.args.now c.args.fuel _ c.args.self.now.scheduler _ c.poll_counted.result
    (ap (λ (r : Runs g.row.T.Denot g.row.R.Denot g.row.F.Denot g.row.MkF.Denot g.row.Ready.Denot). r.scheduler) c.self.view_is) c.poll_counted.ensures.spent c.poll_counted.ensures.lost c.poll_counted.ensures.unchanged
