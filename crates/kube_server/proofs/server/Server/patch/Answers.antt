use Rattle.std.proofs.Common.{map}
use Rattle.kube_meta.specs.Resources.{dynamic_reference}
use Rattle.kube_api.specs.Patches.{operation_of}
use Rattle.kube_server.specs.Servers.{next_revision, held, patch_change}
use Rattle.kube_server.specs.Stored.{change_of}
use Rattle.kube_server.proofs.ServerLemmas.{held-map, patched-step}
use Rattle.kube_server.proofs.server.Server.patch.Goals as goal

pub returns-clause-step : goal.returns-clause-step
returns-clause-step c =
    held-map (held c.args.self.now (dynamic_reference c.args.key.now)) _ _
    (λ o h. patched-step c.args.self.now _ (change_of c.in_ok-entry.entry)
    (patch_change (next_revision c.args.self.now) (map operation_of c.args.patch.now) o) h c.in_ok-make.ensures.ok)
    c.in_ok-entry.ensures.ok
