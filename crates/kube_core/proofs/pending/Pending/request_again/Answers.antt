use Rattle.std.proofs.Common.{refl, sym, subst}
use Rattle.kube_core.specs.Pendings.{Stands}
use Rattle.kube_core.proofs.PendingSteps.{requested}
use Rattle.kube_core.proofs.pending.Pending.request_again.Goals as goal

pub returns-clause-stands : goal.returns-clause-stands
returns-clause-stands g c core qs rs s =
    let type_of = g.K.Resource.type_of in
    requested type_of core _ _ c.args.request c.args.run_at c.args.now qs rs refl c.schedule_reserved.ensures.debounce refl c.schedule_reserved.ensures.stands
    (subst (λ p. Stands type_of core p qs rs) (sym c.self.view_is) s)
