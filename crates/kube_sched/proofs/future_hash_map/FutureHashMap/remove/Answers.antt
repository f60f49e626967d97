use Rattle.std.proofs.Common.{sym, subst}
use Rattle.kube_sched.specs.Futures.{CanPollAll}
use Rattle.kube_sched.proofs.Futures.{can-removed}
use Rattle.kube_sched.proofs.future_hash_map.FutureHashMap.remove.Goals as goal

pub invariant_of-self : goal.invariant_of-self
invariant_of-self g c =
    subst (CanPollAll g.F.Future.can_poll) (sym c.shift_remove.ensures.entries)
    (can-removed g.F.Future.can_poll (g.K.PartialEq.eq c.args.key.now) c.self.inside.futures.entries c.self.invariant)
