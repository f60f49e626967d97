use Rattle.std.proofs.Common.{ap, Err}
use Rattle.kube_run.proofs.Served.{nothing-left, runs-long}
use Rattle.kube_run.proofs.program.run_source.Goals as goal

pub returns-in-Err-NoMemory-clause-runs : goal.returns-in-Err-NoMemory-clause-runs
returns-in-Err-NoMemory-clause-runs g c = nothing-left (g.S.Source.left c.args.source.now) (g.W.Sink.written c.args.sink.now)

pub returns-in-Err-TooLong-clause-runs : goal.returns-in-Err-TooLong-clause-runs
returns-in-Err-TooLong-clause-runs g c =
    runs-long c.refuse.result (g.S.Source.left c.args.source.now) (g.W.Sink.written c.args.sink.now) (g.W.Sink.written c.refuse.new.sink)
    (c.in-Err-TooLong.ensures.too_long (ap Err c.in-Err-TooLong.field-0-is)) c.refuse.ensures.tells
