use Rattle.std.proofs.Common.{ap, ◌∙◌}
use Rattle.std.specs.Arc.{arc_value}
use Rattle.kube_server.specs.History.{with_object}
use Rattle.kube_server.specs.Stored.{key_at, state_held}
use Rattle.kube_server.proofs.ObjectLemmas.{state-insert}
use Rattle.kube_server.proofs.objects.Objects.put.Goals as goal

pub returns-clause-ok : goal.returns-clause-ok
returns-clause-ok c =
    ap state_held c.in_ok-insert.ensures.entries
    ∙ (state-insert c.self.inside.by_place.entries c.args.place c.args.object
    ∙ ap (with_object (key_at c.args.place) (arc_value c.args.object)) c.self.view_is)
