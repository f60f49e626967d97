use Rattle.std.proofs.Common.{◌-◌, ◌∙◌, ap, length, map, arith}
use Rattle.std.specs.List.{list_all}
use Rattle.std.proofs.lemmas.List.{drop_all}
use Rattle.std.proofs.lemmas.Bool.{le-leb}
use Rattle.kube_meta.specs.Keys.{reference_of}
use Rattle.kube_reflect.specs.Lags.{is_within}
use Rattle.kube_reflect.specs.Subscribers.{subscribed}
use Rattle.kube_reflect.proofs.Lagging.{within-placed, placed-seen, free-seen}
use Rattle.kube_reflect.proofs.ring.Ring.subscribe.Goals as goal

pub invariant_of-self-2 : goal.invariant_of-self-2
invariant_of-self-2 g c =
    let n = length c.self.inside.references.items in
    ap (list_all (is_within n)) c.in_ok-number.ensures.ok ∙ within-placed n c.self.inside.lags 0 c.self.invariant (le-leb 0 n (omega arith))

pub returns-clause-ok : goal.returns-clause-ok
returns-clause-ok g c =
    let rs = map (reference_of g.K.Resource.type_of) c.self.inside.references.items in
    placed-seen c.self.inside.room rs c.self.inside.is_closed c.self.inside.lags _ 0 c.args.self.now c.in_ok-number.ensures.ok c.self.view_is
    ∙ ap (subscribed c.args.self.now) (drop_all (length rs - 0) rs (omega arith))

pub returns-clause-number : goal.returns-clause-number
returns-clause-number g c =
    let rs = map (reference_of g.K.Resource.type_of) c.self.inside.references.items in
    c.in_ok-number.ensures.number ∙ free-seen c.self.inside.room rs c.self.inside.is_closed c.self.inside.lags c.args.self.now c.self.view_is
