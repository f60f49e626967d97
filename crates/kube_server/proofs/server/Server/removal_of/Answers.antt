use Rattle.std.proofs.Common.{◌≡◌, refl, sym, ap, ap₂, ◌∙◌}
use Rattle.std.specs.Arc.{arc_value}
use Rattle.kube_meta.specs.Resources.{dynamic_reference}
use Rattle.kube_meta.specs.Reading.{seen_object}
use Rattle.kube_server.specs.History.{change_seen}
use Rattle.kube_server.specs.Servers.{next_revision, removal}
use Rattle.kube_server.specs.Stored.{change_of}
use Rattle.kube_server.proofs.ServerLemmas.{next-of-held}
use Rattle.kube_server.proofs.server.Server.removal_of.Goals as goal

pub returns-in-Some-clause-fits : goal.returns-in-Some-clause-fits
returns-in-Some-clause-fits c =
    let o = seen_object (arc_value c.in-Some.stored.now) in
    let made : change_seen seen_object (change_of c.in_ok-removed-in-Some.field-0) ≡ removal (next_revision c.args.self.now) o =
    c.in_ok-removed-in-Some.ensures ∙ ap₂ (λ r x. removal r (seen_object x)) c.next_revision-revision.ensures.value c.deref.ensures in
    next-of-held c.args.self.now (dynamic_reference c.args.key.now) o (change_of c.in_ok-removed-in-Some.field-0)
    (removal (next_revision c.args.self.now) o) c.next_revision-revision.ensures.history (sym c.in-Some.ensures.held) made tt refl refl refl
