use Rattle.example_watch.proofs.print_all.Given as goal

abbrev pub invariant-loop-second : goal.invariant-loop-second
invariant-loop-second g l = g.S.EventStream.can_poll l.changes
