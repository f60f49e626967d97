use Rattle.std.proofs.Common.{sym, subst, ap, ◌∙◌}
use Rattle.kube_meta.specs.Keys.{reference_of}
use Rattle.kube_core.specs.Pendings.{Stands, place_of}
use Rattle.kube_core.proofs.PendingSteps.{place-lookup}
use Rattle.kube_core.proofs.pending.Pending.running_place.Goals as goal

pub returns : goal.returns
returns g c core qs rs s =
    let type_of = g.K.Resource.type_of in
    let r = reference_of type_of c.args.reference.now in
    let z = subst (λ p. Stands type_of core p qs rs) (sym c.self.view_is) s in
    c.get_index_of.ensures.index ∙ (place-lookup type_of c.self.inside.running.entries r ∙ ap (λ us. place_of us r) (sym z.running))
