use Rattle.std.proofs.Common.{ap, ◌∙◌}
use Rattle.kube_server.specs.History.{without_object}
use Rattle.kube_server.specs.Stored.{key_at, state_held}
use Rattle.kube_server.proofs.ObjectLemmas.{state-remove}
use Rattle.kube_server.proofs.objects.Objects.remove.Goals as goal

pub returns : goal.returns
returns c =
    ap state_held c.remove-gone.ensures.entries
    ∙ (state-remove c.args.place.now c.self.inside.by_place.entries ∙ ap (without_object (key_at c.args.place.now)) c.self.view_is)
