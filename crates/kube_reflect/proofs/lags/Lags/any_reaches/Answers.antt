use Rattle.std.proofs.Common.{◌∙◌, ap, ap₂}
use Rattle.std.specs.List.{list_any}
use Rattle.kube_reflect.specs.Lags.{reaches, reaches_at}
use Rattle.kube_reflect.proofs.Living.{reaches-all}
use Rattle.kube_reflect.proofs.lags.Lags.any_reaches.Goals as goal

pub returns : goal.returns
returns c =
    let room = c.args.room in
    c.any_reaches.ensures
    ∙ (ap₂ (λ ls ns. list_any (reaches_at room ls) ns) c.deref.ensures.value (c.deref-2.ensures.value ∙ c.self.invariant)
    ∙ (reaches-all room c.self.inside.places.items ∙ ap (list_any (reaches room)) c.self.view_is))
