use Rattle.std.proofs.Common.{◌≡◌, ◌∙◌, ap, sym, length, map}
use Rattle.std.specs.List.{list_all}
use Rattle.kube_meta.specs.Keys.{reference_of}
use Rattle.kube_reflect.specs.Lags.{is_within}
use Rattle.kube_reflect.specs.Subscribers.{subscribed}
use Rattle.kube_reflect.proofs.Lagging.{within-placed, within-at, placed-seen, free-seen, for_waiting, seen_ring}
use Rattle.kube_reflect.proofs.ring.Ring.copy.Goals as goal

pub invariant_of-self-2 : goal.invariant_of-self-2
invariant_of-self-2 g c =
    let n = length c.self.inside.references.items in
    let lags = c.self.inside.lags in
    let l = sym c.in-Some.is ∙ c.lag.ensures in
    ap (list_all (is_within n)) c.in_ok-number.ensures.ok
    ∙ within-placed n lags c.in-Some.lag c.self.invariant (ap (is_within n) l ∙ within-at n lags c.args.number c.self.invariant)

pub returns-clause-ok : goal.returns-clause-ok
returns-clause-ok g c =
    let rs = map (reference_of g.K.Resource.type_of) c.self.inside.references.items in
    let room = c.self.inside.room in
    let over = c.self.inside.is_closed in
    let lags = c.self.inside.lags in
    let l = sym c.in-Some.is ∙ c.lag.ensures in
    for_waiting room rs over lags c.args.number c.in-Some.lag c.args.self.now (λ ws. seen_ring room rs c.add.new.self over ≡ subscribed c.args.self.now ws) l c.self.view_is
    (placed-seen room rs over lags c.add.new.self c.in-Some.lag c.args.self.now c.in_ok-number.ensures.ok c.self.view_is)

pub returns-clause-number : goal.returns-clause-number
returns-clause-number g c =
    let rs = map (reference_of g.K.Resource.type_of) c.self.inside.references.items in
    c.in_ok-number.ensures.number ∙ free-seen c.self.inside.room rs c.self.inside.is_closed c.self.inside.lags c.args.self.now c.self.view_is
