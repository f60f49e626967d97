use Rattle.kube_sched.proofs.Futures.{split_at}
use Rattle.kube_sched.proofs.future_hash_map.poll_place.Goals as goal

pub returns-in-Ready : goal.returns-in-Ready
returns-in-Ready g c =
    let s = split_at c.args.futures.now.entries c.args.place _ _ c.poll_told.new.self c.pair_mut-future.ensures.value in
    record {
      polled = record {
        before = s.before;
        key = c.pair_mut-future.result.0.now;
        future = c.pair_mut-future.result.1.now;
        left = c.poll_told.new.self;
        behind = s.behind;
        was = s.was;
        is = s.is;
        there = s.there;
        tells = c.in-Ready.ensures.tells;
        given = c.in-Ready.ensures.value;
      };
    }

pub returns-in-Pending : goal.returns-in-Pending
returns-in-Pending g c =
    let s = split_at c.args.futures.now.entries c.args.place _ _ c.poll_told.new.self c.pair_mut-future.ensures.value in
    record {
      polled = record {
        before = s.before;
        key = c.pair_mut-future.result.0.now;
        future = c.pair_mut-future.result.1.now;
        left = c.poll_told.new.self;
        behind = s.behind;
        was = s.was;
        is = s.is;
        there = s.there;
        pending = record { tells = c.in-Pending.ensures.tells; same = c.in-Pending.ensures.same };
        again = c.in-Pending.ensures.again;
      };
    }
