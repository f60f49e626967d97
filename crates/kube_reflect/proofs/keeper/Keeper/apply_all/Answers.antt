use Rattle.std.proofs.Common.{ap, sym, subst, ◌∙◌}
use Rattle.std.specs.Arc.{arc_value}
use Rattle.kube_meta.specs.Keys.{key_of}
use Rattle.kube_reflect.specs.Cached.{kept_after}
use Rattle.kube_reflect.specs.Published.{IsMade}
use Rattle.kube_reflect.proofs.Making.{made-all}
use Rattle.kube_reflect.proofs.keeper.Keeper.apply_all.Goals as goal

pub invariant_of-self : goal.invariant_of-self
invariant_of-self g c =
    let meta = g.K.Resource.meta_of in
    let kind = g.K.Resource.type_of c.self.inside.dyntype in
    let before = c.in_ok-made.ensures ∙ (c.self.invariant ∙ ap (kept_after (λ o. key_of kind (meta o))) (sym (ap (λ s. s.log) c.again-history.ensures))) in
    subst (IsMade meta) (sym c.in_ok-made-2.ensures.made)
    (made-all meta arc_value (record { kind = kind; kept = c.in_ok-made.made; events = c.again-history.result.log }) c.args.events.now before)
