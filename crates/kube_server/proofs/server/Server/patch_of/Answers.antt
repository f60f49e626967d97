use Rattle.std.proofs.Common.{◌≡◌, Ok, map, sym, ap, ap₂, ◌∙◌}
use Rattle.std.specs.Arc.{arc_value}
use Rattle.kube_meta.specs.Resources.{dynamic_reference}
use Rattle.kube_meta.specs.Reading.{seen_object}
use Rattle.kube_api.specs.Patches.{operation_of}
use Rattle.kube_server.specs.Servers.{patch_change}
use Rattle.kube_server.specs.Stored.{change_of}
use Rattle.kube_server.proofs.ServerLemmas.{next-of-patch, ok-map}
use Rattle.kube_server.proofs.server.Server.patch_of.Goals as goal

pub returns-in-Some-clause-fits : goal.returns-in-Some-clause-fits
returns-in-Some-clause-fits c =
    let same = ap₂ (λ r x. patch_change r (map operation_of c.args.patch.now) (seen_object x)) c.next_revision-revision.ensures.value c.deref.ensures in
    ok-map c.patched.result _ _
    (λ e h. next-of-patch c.args.self.now (dynamic_reference c.args.key.now) (seen_object (arc_value c.in-Some.stored.now))
    (map operation_of c.args.patch.now) (change_of e) c.next_revision-revision.ensures.history (sym c.in-Some.ensures.held) (sym same ∙ h))
    c.patched.ensures.ok
