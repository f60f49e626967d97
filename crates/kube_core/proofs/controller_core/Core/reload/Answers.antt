use Rattle.std.proofs.Common.{map, sym, subst, ap, ◌∙◌, ◌≤◌}
use Rattle.kube_history.specs.CoreEvents.{queue_of, running_of}
use Rattle.kube_core.specs.Cores.{Parts, StandsFor}
use Rattle.kube_meta.specs.Reference.{reference_before}
use Rattle.kube_model.specs.Queue.{sorted_by}
use Rattle.kube_model.specs.Requests.{requested_at}
use Rattle.kube_history.specs.TurnCalls.{with_requests}
use Rattle.kube_core.specs.Pendings.{Stands}
use Rattle.kube_core.specs.Cores.{in_bulk}
use Rattle.kube_core.proofs.PendingSteps.{with-places}
use Rattle.kube_core.proofs.CoreSteps.{reloaded-core}
use Rattle.kube_core.proofs.controller_core.Core.reload.Goals as goal

pub returns-clause-stands : goal.returns-clause-stands
returns-clause-stands g c core es s =
    let type_of = g.K.Resource.type_of in
    let meta = g.K.Resource.meta_of in
    let z = subst (λ (p : Parts g.row.K.Denot g.row.K-DynamicType.Denot). StandsFor g.K.Resource.type_of g.K.Resource.meta_of core es p) (sym c.self.view_is) s in
    let m = subst (λ (p : Parts g.row.K.Denot g.row.K-DynamicType.Denot). p.clock.0 ≤ c.args.now.0) (sym c.self.view_is) c.requires in
    let qs = queue_of core es in
    let rs = running_of es in
    let rest = c.request_now.ensures.rest in
    let same = c.in_ok-reserve.ensures.same in
    let keys = c.in_ok-requests.ensures ∙ ap (λ ps. map in_bulk (sorted_by reference_before (map (λ q. q.0) ps))) c.cache.ensures in
    reloaded-core type_of meta core es _ c.request_now.new.self z c.args.now m (ap (λ p. p.initial) rest) (ap (λ p. p.clock) rest) (ap (λ p. p.writer) rest) (ap (λ p. p.is_shut) rest)
    (λ o p. subst (λ q. Stands type_of core q qs rs) (sym (c.request_now.ensures.shut o))
    (with-places type_of core c.self.inside.pending c.reserve.new.self qs rs (ap (λ q. q.limit) same) (ap (λ q. q.schedule) same) (ap (λ q. q.running) same) p))
    (λ o p. subst (λ ms. Stands type_of core c.request_now.new.self.pending (with_requests qs c.args.now.0 (map (requested_at c.args.now.0) ms)) rs) keys
    (c.request_now.ensures.opened o core qs rs
    (with-places type_of core c.self.inside.pending c.reserve.new.self qs rs (ap (λ q. q.limit) same) (ap (λ q. q.schedule) same) (ap (λ q. q.running) same) p)))
