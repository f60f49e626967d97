use Rattle.kube_run.proofs.Served.{nothing-for}
use Rattle.kube_run.proofs.program.refuse_script.Goals as goal

pub returns-in-NoMemory-clause-runs : goal.returns-in-NoMemory-clause-runs
returns-in-NoMemory-clause-runs g c input refused = nothing-for input (g.W.Sink.written c.args.sink.now)
