use Rattle.std.proofs.Common.{refl, sym, subst, ap}
use Rattle.kube_core.specs.Pendings.{Stands}
use Rattle.kube_turn.specs.Views.{same_request}
use Rattle.kube_sched.proofs.Steps.{stands-alike}
use Rattle.kube_core.proofs.PendingSteps.{started}
use Rattle.kube_core.proofs.pending.Pending.start.Goals as goal

pub returns-clause-stands : goal.returns-clause-stands
returns-clause-stands g c core qs rs s a =
    let type_of = g.K.Resource.type_of in
    let same = c.in_ok-reserve.ensures.same in
    started type_of core _ _ c.args.reference c.args.object qs rs refl (ap (λ z. z.debounce) same)
    (λ es h. stands-alike (same_request type_of) _ _ es (ap (λ z. z.debounce) same) (ap (λ z. z.waiting) same) (ap (λ z. z.scheduled) same) h)
    c.in_ok-insert.ensures.entries (subst (λ p. Stands type_of core p qs rs) (sym c.self.view_is) s) a
