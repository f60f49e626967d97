use Rattle.std.proofs.Common.{refl, sym, subst}
use Rattle.kube_core.specs.Pendings.{Stands}
use Rattle.kube_core.proofs.PendingSteps.{settled}
use Rattle.kube_core.proofs.pending.Pending.settle.Goals as goal

pub returns : goal.returns
returns g c = record {
  stands = λ core qs rs s.
      let type_of = g.K.Resource.type_of in
      settled type_of core _ _ c.args.now qs rs refl c.settle.ensures.debounce refl c.settle.ensures.stands
      (subst (λ p. Stands type_of core p qs rs) (sym c.self.view_is) s);
}
