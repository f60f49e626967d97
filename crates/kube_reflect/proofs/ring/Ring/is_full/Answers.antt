use Rattle.std.proofs.Common.{◌∙◌, ap, sym, map}
use Rattle.std.specs.List.{list_all}
use Rattle.std.proofs.lemmas.List.{length-map}
use Rattle.kube_meta.specs.Keys.{reference_of}
use Rattle.kube_reflect.specs.Lags.{is_within}
use Rattle.kube_reflect.specs.Subscribers.{is_full}
use Rattle.kube_reflect.proofs.Lagging.{any-reaches}
use Rattle.kube_reflect.proofs.ring.Ring.is_full.Goals as goal

pub returns : goal.returns
returns g c =
    let ref = reference_of g.K.Resource.type_of in
    let items = c.self.inside.references.items in
    let lags = c.self.inside.lags in
    let room = c.self.inside.room in
    let w = ap (λ n. list_all (is_within n) lags) (length-map items ref) ∙ c.self.invariant in
    c.any_reaches.ensures ∙ (sym (any-reaches room (map ref items) lags w) ∙ ap is_full c.self.view_is)
