use Rattle.std.proofs.Common.{◌≡◌, ◌-◌}
use Rattle.std.specs.List.{find, range_with_len}
use Rattle.kube_asks.specs.Kept.{may_ask_by}
use Rattle.kube_asks.proofs.asks.Asks.first_between.Given as goal

-- what is left leads to what all leads to
abbrev pub invariant-loop-source : goal.invariant-loop-source
invariant-loop-source g l = find (may_ask_by l.self.kept) (range_with_len l.source (l.to - l.source)) ≡ find (may_ask_by l.self.kept) (range_with_len l.fn.from (l.to - l.fn.from))
