use Rattle.std.proofs.Common.{◌≡◌, ◌+◌, drop, map}
use Rattle.kube_object.specs.Named.{named_type}
use Rattle.kube_turn.specs.Views.{exchange_of}
use Rattle.kube_run.specs.GeneratedRun.{requested}
use Rattle.kube_run.proofs.totals.count_requests.Given as goal

-- those that were counted, and those of what is left, are all
abbrev pub invariant-loop-exchange : goal.invariant-loop-exchange
invariant-loop-exchange l = l.requests + requested (map (exchange_of named_type) (drop l.exchange-index l.exchanges)) ≡ requested (map (exchange_of named_type) l.exchanges)
