use Rattle.std.proofs.Common.{◌≡◌, sym, ap, ◌∙◌, option_map}
use Rattle.kube_meta.specs.Resources.{dynamic_reference}
use Rattle.kube_meta.specs.Reading.{seen_object}
use Rattle.kube_server.specs.History.{change_seen}
use Rattle.kube_server.specs.Servers.{next_revision, held, deletion}
use Rattle.kube_server.specs.Stored.{change_of}
use Rattle.kube_server.proofs.ServerLemmas.{held-map, at-most-step}
use Rattle.kube_server.proofs.server.Server.request_delete.Goals as goal

pub returns-in_ok-make-in-Some-clause-step : goal.returns-in_ok-make-in-Some-clause-step
returns-in_ok-make-in-Some-clause-step c =
    held-map (held c.args.self.now (dynamic_reference c.args.key.now)) _ _
    (λ o h. at-most-step c.args.self.now _ (change_of c.in-Some.entry) (deletion (next_revision c.args.self.now) c.args.now.0 o)
    (ap (option_map (λ x. change_seen seen_object (change_of x))) (sym c.in-Some.is) ∙ h) c.in_ok-make-in-Some.ensures.ok)
    c.in_ok-entry.ensures.ok
