use Rattle.std.proofs.Common.{ap, ◌∙◌, map}
use Rattle.kube_meta.specs.Keys.{reference_of}
use Rattle.kube_reflect.specs.Cached.{drop_under}
use Rattle.kube_reflect.specs.Views.{stored_of}
use Rattle.kube_reflect.proofs.Putting.{dropped}
use Rattle.kube_reflect.proofs.cache.Cache.remove.Goals as goal

pub returns : goal.returns
returns g c = λ object.
    let seen = stored_of g.K.Resource.type_of in
    let r = reference_of g.K.Resource.type_of c.args.reference in
    ap (map seen) c.remove.ensures.items
    ∙ (dropped seen c.self.inside.items.items r object ∙ ap (λ s. drop_under s (r, object)) c.self.view_is)
