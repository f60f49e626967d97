use Rattle.std.proofs.Common.{Some}
use Rattle.kube_meta.specs.declared.poll.Polled.TheVariants.{Ready}
use Rattle.kube_sched.proofs.Futures.{map-not-ready}
use Rattle.kube_sched.proofs.future_hash_map.FutureHashMap.poll_next.Goals as goal

pub returns-in-Some-clause-not_ready : goal.returns-in-Some-clause-not_ready
returns-in-Some-clause-not_ready g c =
    map-not-ready g.F.ToldFuture.told g.F.Future.gives c.args.self.now c.poll_first.new.self (Ready (Some c.in-Some.value)) c.in-Some.ensures.polled
