use Rattle.std.proofs.Common.{map, ◌∙◌, arith}
use Rattle.std.specs.List.{range_with_len}
use Rattle.kube_asks.specs.Kept.{stop_by}
use Rattle.kube_asks.proofs.Bools.{map-step, map-done}
use Rattle.kube_asks.proofs.asks.Asks.all_stops.Goals as goal

pub loop-source-preserved : goal.loop-source-preserved
loop-source-preserved g c =
    let i = c.loop-source.invariant in
    let f = stop_by c.args.self.now.kept c.args.shut in
    record {
      all = map-step f c.loop-source.stops.items (map f (range_with_len 0 c.args.count)) c.loop-source.source c.args.count c.loop-source-test.true i.all c.push_reserved.new.self.items c.stop_of.result
          c.stop_of.ensures c.push_reserved.ensures.items;
      done = omega (arith, c.push_reserved.ensures.len, i.done);
      room = omega (arith, c.push_reserved.ensures.capacity, i.room);
    }

pub returns : goal.returns
returns g c =
    let f = stop_by c.args.self.now.kept c.args.shut in
    c.from.ensures
    ∙ map-done f c.loop-source.stops.items (map f (range_with_len 0 c.args.count)) c.loop-source.source c.args.count (omega (arith, c.loop-source-test.false)) c.loop-source.invariant.all
