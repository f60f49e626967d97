use Rattle.std.proofs.Common.{refl}
use Rattle.std.specs.Fn.{CalledAt}
use Rattle.kube_sched.proofs.Runs.{within-first, within-pending, ran-gave, ran-failed, ran-went, ended}
use Rattle.kube_sched.proofs.runner.Runner.poll_next.Goals as goal

pub invariant_of-self : goal.invariant_of-self
invariant_of-self g c = (
  c.self.invariant.0,
  within-first g.F.ToldFuture.told g.F.Future.gives c.self.inside.max c.self.inside.slots c.poll_first.new.self c.in-Some.value c.in-Some.ensures.polled c.self.invariant.1,
  c.in-Some.ensures.unique,
)

pub returns-in-Some-clause-polled : goal.returns-in-Some-clause-polled
returns-in-Some-clause-polled g c =
    ran-gave g.T.PartialEq.eq g.R.Requests.told g.F.ToldFuture.told g.F.Future.gives g.Ready.ToldFuture.told g.Ready.Future.gives (CalledAt g.MkF.FnMut) c.args.now c.args.fuel _ c.args.self.now _ c.in-Some.value
    c.self.view_is c.if-self-2.false c.in-Some.ensures.polled refl

pub returns-in-Some-clause-few : goal.returns-in-Some-clause-few
returns-in-Some-clause-few g c =
    within-first g.F.ToldFuture.told g.F.Future.gives c.self.inside.max c.self.inside.slots c.poll_first.new.self c.in-Some.value c.in-Some.ensures.polled c.self.invariant.1

pub invariant_of-self-in-Some-poll_readiness : goal.invariant_of-self-in-Some-poll_readiness
invariant_of-self-in-Some-poll_readiness g c = (
  c.poll_readiness.ensures.again,
  within-pending g.F.ToldFuture.told g.F.Future.gives c.self.inside.max c.self.inside.slots c.poll_first.new.self c.in_default.ensures.polled c.self.invariant.1,
  c.in_default.ensures.unique,
)

pub returns-in-Some-poll_readiness-clause-polled :
    goal.returns-in-Some-poll_readiness-clause-polled
returns-in-Some-poll_readiness-clause-polled g c =
    ran-failed g.T.PartialEq.eq g.R.Requests.told g.F.ToldFuture.told g.F.Future.gives g.Ready.ToldFuture.told g.Ready.Future.gives (CalledAt g.MkF.FnMut) c.args.now c.args.fuel _ c.args.self.now _ c.in-Some-poll_readiness.error
    c.self.view_is c.if-self-2.false c.in_default.ensures.polled c.in-Some-poll_readiness.ensures.polled refl

pub returns-in-Some-poll_readiness-clause-few : goal.returns-in-Some-poll_readiness-clause-few
returns-in-Some-poll_readiness-clause-few g c =
    within-pending g.F.ToldFuture.told g.F.Future.gives c.self.inside.max c.self.inside.slots c.poll_first.new.self c.in_default.ensures.polled c.self.invariant.1

pub invariant_of-self-in_default-poll_readiness : goal.invariant_of-self-in_default-poll_readiness
invariant_of-self-in_default-poll_readiness g c = (
  c.poll_readiness.ensures.again,
  within-pending g.F.ToldFuture.told g.F.Future.gives c.self.inside.max c.self.inside.slots c.poll_first.new.self c.in_default.ensures.polled c.self.invariant.1,
  c.in_default.ensures.unique,
)

pub returns-clause-polled : goal.returns-clause-polled
returns-clause-polled g c =
    ran-went g.T.PartialEq.eq g.R.Requests.told g.F.ToldFuture.told g.F.Future.gives g.Ready.ToldFuture.told g.Ready.Future.gives (CalledAt g.MkF.FnMut) c.args.now c.args.fuel _ c.args.self.now c.start_all.new.self
    c.poll_first.new.self c.poll_readiness.new.readiness c.in-Ok.ending c.answer.result
    c.self.view_is c.if-self-2.false c.in_default.ensures.polled c.in_default-poll_readiness.ensures.polled c.in-Ok.ensures.started c.answer.ensures

pub returns-clause-ended : goal.returns-clause-ended
returns-clause-ended g c =
    ended g.T.PartialEq.eq g.R.Requests.told g.F.ToldFuture.told g.F.Future.gives g.Ready.ToldFuture.told g.Ready.Future.gives (CalledAt g.MkF.FnMut) c.args.now c.args.fuel c.args.self.now c.start_all.new.self
    c.answer.result (returns-clause-polled g c)
