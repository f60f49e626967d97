use Rattle.std.proofs.Common.{◌∙◌, ap, sym, map}
use Rattle.std.specs.Prelude.{is_some}
use Rattle.std.specs.List.{list_any}
use Rattle.kube_meta.specs.Keys.{reference_of}
use Rattle.kube_reflect.specs.Subscribers.{Ring}
use Rattle.kube_reflect.proofs.Lagging.{some-lagging}
use Rattle.kube_reflect.proofs.ring.Ring.has_subscribers.Goals as goal

pub returns : goal.returns
returns g c =
    c.any_there.ensures
    ∙ (sym (some-lagging (map (reference_of g.K.Resource.type_of) c.self.inside.references.items) c.self.inside.lags) ∙ ap (λ (r : Ring). list_any is_some r.waiting) c.self.view_is)
