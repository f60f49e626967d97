use Rattle.std.proofs.Common.{◌≡◌, length}
use Rattle.kube_sched.specs.Futures.{CanPollAll}
use Rattle.kube_sched.proofs.Futures.{Polling}
use Rattle.kube_sched.proofs.future_hash_map.FutureHashMap.poll_first.Given as goal

-- none of the futures before this place is ready
abbrev pub invariant-loop-place : goal.invariant-loop-place
invariant-loop-place g l =
    record {
      polling : Polling g.F.ToldFuture.told g.F.Future.gives l.fn.self l.self-inside.futures.entries l.place;
      can : CanPollAll g.F.Future.can_poll l.self-inside.futures.entries;
      len : length l.self-inside.futures.entries ≡ l.count;
      same : length l.fn.self ≡ l.count;
    }
