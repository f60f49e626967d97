use Rattle.kube_server.specs.History.{IsLater}
use Rattle.kube_server_tests.proofs.tests.first_other.Given as goal

abbrev pub invariant-loop-line : goal.invariant-loop-line
invariant-loop-line g l = IsLater l.world.conn.changes l.world.server.changes l.world.conn.compacted l.world.server.compacted
