use Rattle.std.proofs.Common.{◌≡◌, sym, ap, ap₂, ◌∙◌, option_map}
use Rattle.std.specs.Arc.{arc_value}
use Rattle.kube_meta.specs.Resources.{dynamic_reference}
use Rattle.kube_meta.specs.Reading.{seen_object}
use Rattle.kube_server.specs.Servers.{deletion}
use Rattle.kube_server.proofs.ServerLemmas.{deletion-fits}
use Rattle.kube_server.proofs.server.Server.deletion_of.Goals as goal

pub returns-in-Some-clause-fits : goal.returns-in-Some-clause-fits
returns-in-Some-clause-fits c =
    deletion-fits c.args.self.now (dynamic_reference c.args.key.now) (seen_object (arc_value c.in-Some.stored.now)) c.args.now.0
    c.in_ok-deleted-in-Some.field-0 c.next_revision-revision.ensures.history (sym c.in-Some.ensures.held)
    (c.in_ok-deleted-in-Some.ensures ∙ ap₂ (λ r x. deletion r c.args.now.0 (seen_object x)) c.next_revision-revision.ensures.value c.deref.ensures)
