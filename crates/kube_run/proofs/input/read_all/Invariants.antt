use Rattle.std.proofs.Common.{◌≤◌, length}
use Rattle.std.specs.Io.KnownBytes.{Consumes}
use Rattle.kube_run.specs.Limit.{longest}
use Rattle.kube_run.proofs.input.read_all.Given as goal

abbrev pub invariant-loop : goal.invariant-loop
invariant-loop g l =
    Consumes (g.S.Source.left l.fn.source) (g.S.Source.left l.source) l.all.items
    × (length l.all.items ≤ longest) × (l.counter ≤ length l.all.items)
    × (g.S.Source.faults l.fn.source ≤ g.S.Source.faults l.source)
