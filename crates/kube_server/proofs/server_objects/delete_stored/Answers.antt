use Rattle.std.proofs.Common.{◌≡◌, sym, ap, ◌∙◌, option_map}
use Rattle.std.specs.Arc.{arc_value}
use Rattle.kube_meta.specs.Resources.{dynamic_reference}
use Rattle.kube_meta.specs.Reading.{seen_object}
use Rattle.kube_server.specs.History.{change_seen}
use Rattle.kube_server.specs.Servers.{next_revision, held, deletion}
use Rattle.kube_server.specs.Stored.{change_of}
use Rattle.kube_server.proofs.ServerLemmas.{at-most-step}
use Rattle.kube_server.proofs.CallLemmas.{held-at}
use Rattle.kube_server.proofs.server_objects.delete_stored.Goals as goal

pub returns-in_ok-make-in-Some-clause-left : goal.returns-in_ok-make-in-Some-clause-left
returns-in_ok-make-in-Some-clause-left c =
    let o = seen_object (arc_value c.args.stored) in
    at-most-step c.args.server.now _ (change_of c.in-Some.entry) (deletion (next_revision c.args.server.now) c.args.now.0 o)
    (ap (option_map (λ x. change_seen seen_object (change_of x))) (sym c.in-Some.is)
    ∙ held-at (held c.args.server.now (dynamic_reference c.args.key.now)) o _ c.requires c.in-Ok.ensures.ok)
    c.in_ok-make-in-Some.ensures.ok
