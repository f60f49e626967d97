use Rattle.kube_streams_tests.proofs.tests.streams.check.Given as goal

abbrev pub invariant-loop-poll : goal.invariant-loop-poll
invariant-loop-poll g l = g.S.EventStream.can_poll l.stream
