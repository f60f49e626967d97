use Rattle.std.proofs.Common.{sym, subst, ap, ◌∙◌, option_map}
use Rattle.kube_meta.specs.Keys.{reference_of}
use Rattle.kube_core.specs.Pendings.{Stands, handed_over}
use Rattle.std.specs.Arc.{arc_value}
use Rattle.kube_core.proofs.PendingSteps.{handed}
use Rattle.kube_core.proofs.pending.Pending.running.Goals as goal

pub returns : goal.returns
returns g c core qs rs s =
    let type_of = g.K.Resource.type_of in
    let r = reference_of type_of c.args.reference.now in
    let z = subst (λ p. Stands type_of core p qs rs) (sym c.self.view_is) s in
    ap (option_map arc_value) c.get.ensures.value ∙ (handed type_of c.self.inside.running.entries r ∙ ap (λ us. handed_over us r) (sym z.running))
