use Rattle.std.proofs.Common.{◌≤◌}
use Rattle.kube_run.proofs.Records.{Written}
use Rattle.kube_run.proofs.trace.write_records.Given as goal

abbrev pub invariant-loop-turn : goal.invariant-loop-turn
invariant-loop-turn g l =
    Written (g.W.Sink.written l.fn.sink) (g.W.Sink.written l.sink) l.turn l.records
    × (g.W.Sink.faults l.fn.sink ≤ g.W.Sink.faults l.sink)
