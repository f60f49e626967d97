use Rattle.std.proofs.Common.{ap}
use Rattle.kube_core.proofs.PendingSteps.{with-places}
use Rattle.kube_feed.proofs.requests.request_all.Goals as goal

pub returns : goal.returns
returns g c core qs rs s =
    let same = c.in_ok-reserve.ensures.same in
    c.request_each.ensures.stands core qs rs (with-places g.K.Resource.type_of core c.args.pending.now c.reserve.new.self qs rs (ap (λ q. q.limit) same) (ap (λ q. q.schedule) same) (ap (λ q. q.running) same) s)
