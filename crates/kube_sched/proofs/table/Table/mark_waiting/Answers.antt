use Rattle.std.proofs.Common.{true, refl}
use Rattle.kube_sched.proofs.Indexing.{indexed-marked}
use Rattle.kube_sched.proofs.table.Table.mark_waiting.Goals as goal

pub returns-clause-marked : goal.returns-clause-marked
returns-clause-marked g c =
    let e = c.pair_mut-entry.result.1.now in
    record {
      row = (c.pair_mut-entry.result.0.now, c.pair_mut-entry.result.1.now);
      entry = record { time = e.time; number = e.number; is_waiting = true };
      there = c.pair_mut-entry.ensures.value;
      number = refl;
      time = refl;
      held = refl;
      is = refl;
    }

pub returns-clause-indexed : goal.returns-clause-indexed
returns-clause-indexed g c =
    let e = c.pair_mut-entry.result.1.now in
    indexed-marked g.T.PartialEq.eq c.args.self.now.entries.entries c.args.self.now.numbers.keys c.args.place (c.pair_mut-entry.result.0.now, c.pair_mut-entry.result.1.now)
    (record { time = e.time; number = e.number; is_waiting = true }) c.requires.indexed c.pair_mut-entry.ensures.value refl
