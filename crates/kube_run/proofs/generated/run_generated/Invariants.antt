use Rattle.std.proofs.Common.{◌≡◌}
use Rattle.kube_run.proofs.generated.run_generated.Given as goal

-- so many turns were taken
abbrev pub invariant-loop : goal.invariant-loop
invariant-loop l = l.run ≡ record { seed = l.fn.seed; objects = l.fn.objects; turns = l.fn.turns; taken = l.counter }
