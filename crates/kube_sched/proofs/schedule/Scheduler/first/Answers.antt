use Rattle.std.proofs.Common.{◌<◌, length, sym, subst, ap, Some, None}
use Rattle.std.specs.Fn.{FnReturnsAt}
use Rattle.kube_sched.specs.Held.{IsFirstAt, MessageAt, messages}
use Rattle.kube_sched.specs.Schedule.{Schedule, IsFirst, waiting_messages}
use Rattle.kube_sched.specs.Timetables.{waiting_of}
use Rattle.kube_sched.proofs.Steps.{takes-some, takes-none}
use Rattle.kube_sched.proofs.schedule.Scheduler.first.Goals as goal

pub returns-in-Some : goal.returns-in-Some
returns-in-Some g c = λ events stands.
    let inside = ap (λ (s : Schedule g.row.T.Denot). s.waiting) c.self.view_is in
    let i = c.in-Some.place in
    let at = subst (λ hs. MessageAt hs i c.message_at.result.now) inside c.message_at.ensures in
    subst (λ m. IsFirst (FnReturnsAt g.C.Fn c.args.c) (waiting_messages g.T.PartialEq.eq c.args.self.now.debounce events) (Some m)) (sym at.of)
    (takes-some g.T.PartialEq.eq (FnReturnsAt g.C.Fn c.args.c) c.args.self.now events stands i at.held
    (subst (λ hs. i < length hs) inside c.in-Some.ensures.within)
    at.is
    (subst (λ hs. IsFirstAt (FnReturnsAt g.C.Fn c.args.c) (messages hs) (Some i)) inside c.in-Some.ensures.first))

pub returns : goal.returns
returns g c = λ events stands.
    let inside = ap (λ (s : Schedule g.row.T.Denot). s.waiting) c.self.view_is in
    takes-none g.T.PartialEq.eq (FnReturnsAt g.C.Fn c.args.c) c.args.self.now events stands
    (subst (λ hs. IsFirstAt (FnReturnsAt g.C.Fn c.args.c) (messages hs) None) inside
    (subst (λ o. IsFirstAt (FnReturnsAt g.C.Fn c.args.c) (messages (waiting_of c.self.inside.times)) o) c.in-None.is c.first_passing.ensures.first))
