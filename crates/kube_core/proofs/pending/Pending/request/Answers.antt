use Rattle.std.proofs.Common.{refl, sym, subst}
use Rattle.kube_core.specs.Pendings.{Stands}
use Rattle.std.proofs.lemmas.Result.{on_ok_weaker}
use Rattle.kube_core.proofs.PendingSteps.{requested}
use Rattle.kube_core.proofs.pending.Pending.request.Goals as goal

pub returns-clause-stands : goal.returns-clause-stands
returns-clause-stands g c =
    let type_of = g.K.Resource.type_of in
    on_ok_weaker c.schedule.result
    (λ h core qs rs s. requested type_of core _ _ c.args.request c.args.run_at c.args.now qs rs refl c.schedule.ensures.debounce refl h (subst (λ p. Stands type_of core p qs rs) (sym c.self.view_is) s))
    c.schedule.ensures.stands
