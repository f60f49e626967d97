use Rattle.std.proofs.Common.{sym, subst}
use Rattle.kube_sched.specs.Futures.{CanPollAll}
use Rattle.kube_sched.proofs.Futures.{can-put}
use Rattle.kube_sched.proofs.future_hash_map.FutureHashMap.insert.Goals as goal

pub invariant_of-self-2 : goal.invariant_of-self-2
invariant_of-self-2 g c =
    subst (CanPollAll g.F.Future.can_poll) (sym c.in_ok-insert.ensures.entries)
    (can-put g.F.Future.can_poll g.K.PartialEq.eq c.self.inside.futures.entries c.args.key c.args.future c.requires c.self.invariant)
