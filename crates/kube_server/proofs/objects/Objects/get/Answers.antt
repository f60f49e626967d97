use Rattle.std.proofs.Common.{ap, ◌∙◌, option_map}
use Rattle.std.specs.Arc.{arc_value}
use Rattle.kube_server.specs.History.{object_at}
use Rattle.kube_server.specs.Stored.{key_at}
use Rattle.kube_server.proofs.ObjectLemmas.{state-lookup}
use Rattle.kube_server.proofs.objects.Objects.get.Goals as goal

pub returns : goal.returns
returns c =
    ap (option_map arc_value) c.get.ensures.value
    ∙ (state-lookup c.args.place.now c.self.inside.by_place.entries ∙ ap (object_at (key_at c.args.place.now)) c.self.view_is)
