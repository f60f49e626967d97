use Rattle.kube_meta.specs.Resources.{dynamic_reference}
use Rattle.kube_server.specs.Servers.{next_revision, held, removal}
use Rattle.kube_server.specs.Stored.{change_of}
use Rattle.kube_server.proofs.ServerLemmas.{made-of-held}
use Rattle.kube_server.proofs.server.Server.remove.Goals as goal

pub returns-clause-step : goal.returns-clause-step
returns-clause-step c =
    made-of-held c.args.self.now c.make.new.self (held c.args.self.now (dynamic_reference c.args.key.now))
    (removal (next_revision c.args.self.now)) (change_of c.in_ok-entry.entry) c.in_ok-entry.ensures.ok c.in_ok-make.ensures.ok
