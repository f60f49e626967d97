use Rattle.std.proofs.Common.{ap, sym, subst, ◌∙◌}
use Rattle.kube_sched.specs.Runs.{IsWithin, runs}
use Rattle.kube_sched.proofs.Runs.{within-removed, runs-removed}
use Rattle.kube_sched.proofs.runner.Runner.finish.Goals as goal

pub invariant_of-self : goal.invariant_of-self
invariant_of-self g c = (
  c.self.invariant.0,
  subst (IsWithin c.self.inside.max) (sym c.remove.ensures.removed) (within-removed c.self.inside.max (g.T.PartialEq.eq c.args.message.now) c.self.inside.slots c.self.invariant.1),
  c.remove.ensures.unique,
)

pub returns-clause-over : goal.returns-clause-over
returns-clause-over g c =
    ap (runs g.T.PartialEq.eq c.args.message.now) c.remove.ensures.removed
    ∙ runs-removed g.T.PartialEq.eq g.met.T.Eq.laws c.args.message.now c.self.inside.slots c.self.invariant.2
