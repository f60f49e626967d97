use Rattle.std.proofs.Common.{◌≡◌, ◌≤◌, ◌++◌, ◌-◌, map, vec_len, vec_capacity}
use Rattle.std.specs.List.{range_with_len}
use Rattle.kube_asks.specs.Kept.{stop_by}
use Rattle.kube_asks.proofs.asks.Asks.all_stops.Given as goal

-- what is done and what is left are all, and there is room for what is left
abbrev pub invariant-loop-source : goal.invariant-loop-source
invariant-loop-source g l = record {
  all : l.stops.items ++ map (stop_by l.self.kept l.shut) (range_with_len l.source (l.count - l.source)) ≡ map (stop_by l.self.kept l.shut) (range_with_len 0 l.count);
  done : vec_len l.stops ≡ l.source;
  room : l.count ≤ vec_capacity l.stops;
}
