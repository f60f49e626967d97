use Rattle.std.proofs.Common.{◌<◌, length, sym, subst, ap, ◌∙◌, arith, Some, None}
use Rattle.std.specs.Fn.{FnReturnsAt}
use Rattle.std.specs.List.{remove}
use Rattle.std.proofs.lemmas.List.Edits.{length-remove}
use Rattle.kube_sched.specs.Held.{IsFirstAt, MessageAt, messages}
use Rattle.kube_sched.specs.Schedule.{Schedule, IsFirst, waiting_messages}
use Rattle.kube_sched.proofs.Steps.{takes-some, takes-none}
use Rattle.kube_sched.proofs.Counts.{took-at}
use Rattle.kube_sched.proofs.Polls.{passes-at}
use Rattle.kube_sched.proofs.schedule.Scheduler.take_passing.Goals as goal

pub returns-in-Some-clause-first : goal.returns-in-Some-clause-first
returns-in-Some-clause-first g c events stands =
    let inside = ap (λ (s : Schedule g.row.T.Denot). s.waiting) c.self.view_is in
    let i = c.in-Some.place in
    let at = subst (λ hs. MessageAt hs i c.take.result) inside c.take.ensures.taken in
    subst (λ m. IsFirst (FnReturnsAt g.C.Fn c.args.c.now) (waiting_messages g.T.PartialEq.eq c.args.self.now.debounce events) (Some m)) (sym at.of)
    (takes-some g.T.PartialEq.eq (FnReturnsAt g.C.Fn c.args.c.now) c.args.self.now events stands i at.held
    (subst (λ hs. i < length hs) inside c.in-Some.ensures.within)
    at.is
    (subst (λ hs. IsFirstAt (FnReturnsAt g.C.Fn c.args.c.now) (messages hs) (Some i)) inside c.in-Some.ensures.first))

pub returns-in-Some-clause-taken : goal.returns-in-Some-clause-taken
returns-in-Some-clause-taken g c events stands =
    let inside = ap (λ (s : Schedule g.row.T.Denot). s.waiting) c.self.view_is in
    let i = c.in-Some.place in
    let at = subst (λ hs. MessageAt hs i c.take.result) inside c.take.ensures.taken in
    took-at g.T.PartialEq.eq g.met.T.Eq.laws c.args.self.now _ events i c.take.result at stands
    (subst (λ hs. i < length hs) inside c.in-Some.ensures.within)
    (ap (λ (s : Schedule g.row.T.Denot). s.debounce) c.self.view_is)
    (c.take.ensures.waiting ∙ ap (λ hs. remove hs i) inside)
    (c.take.ensures.scheduled ∙ ap (λ (s : Schedule g.row.T.Denot). s.scheduled) c.self.view_is)

pub returns-in-None-clause-first : goal.returns-in-None-clause-first
returns-in-None-clause-first g c events stands =
    let inside = ap (λ (s : Schedule g.row.T.Denot). s.waiting) c.self.view_is in
    takes-none g.T.PartialEq.eq (FnReturnsAt g.C.Fn c.args.c.now) c.args.self.now events stands
    (subst (λ hs. IsFirstAt (FnReturnsAt g.C.Fn c.args.c.now) (messages hs) None) inside c.in-None.ensures.first)

pub returns-in-Some-clause-held : goal.returns-in-Some-clause-held
returns-in-Some-clause-held g c =
    let a = ap length c.take.ensures.waiting in
    let b = ap length c.take.ensures.scheduled in
    let d = ap (λ (s : Schedule g.row.T.Denot). length s.waiting) c.self.view_is in
    let e = ap (λ (s : Schedule g.row.T.Denot). length s.scheduled) c.self.view_is in
    let l = c.in-Some.ensures.within in
    let r = length-remove _ c.in-Some.place l in
    omega arith

pub returns-in-Some-clause-passes : goal.returns-in-Some-clause-passes
returns-in-Some-clause-passes g c =
    let inside = ap (λ (s : Schedule g.row.T.Denot). s.waiting) c.self.view_is in
    let i = c.in-Some.place in
    let at = subst (λ hs. MessageAt hs i c.take.result) inside c.take.ensures.taken in
    subst (λ m. FnReturnsAt g.C.Fn c.args.c.now m _) (sym at.of)
    (passes-at (FnReturnsAt g.C.Fn c.args.c.now) c.args.self.now.waiting i at.held
    (subst (λ hs. i < length hs) inside c.in-Some.ensures.within)
    at.is
    (subst (λ hs. IsFirstAt (FnReturnsAt g.C.Fn c.args.c.now) (messages hs) (Some i)) inside c.in-Some.ensures.first))
