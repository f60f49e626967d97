use Rattle.std.proofs.Common.{ap, subst, ◌∙◌}
use Rattle.kube_streams.specs.Filters.{Filtering, IsForgotten, SameSights, sights_in, sights_of, swept, with_sight}
use Rattle.kube_streams.proofs.Evicted.{swept-by}
use Rattle.kube_streams.proofs.predicate_filter.Filter.see.Goals as goal

pub returns-clause-forgotten : goal.returns-clause-forgotten
returns-clause-forgotten g c =
    let now = c.args.now.0 in
    let f : Filtering g.row.P.Denot = record { predicate = c.self.inside.predicate; kept = c.self.inside.cache.entries; ttl = c.self.inside.ttl; evicted = c.self.inside.last_evicted.0 } in
    let done = c.forget-self-inside in
    let same = c.reserve.ensures.entries in
    let is = swept-by now f c.reserve.new.self.entries done.new.cache.entries done.result.0 same done.ensures.kept done.ensures.evicted in
    subst (λ (h : Filtering g.row.P.Denot). IsForgotten h.ttl now (sights_in h) (sights_in (swept now h))) c.self.view_is
    (subst (λ (h : Filtering g.row.P.Denot). IsForgotten f.ttl now (sights_in f) (sights_in h)) is
    (subst (λ ks. IsForgotten f.ttl now (sights_of ks) (sights_of done.new.cache.entries)) same done.ensures.forgotten))

pub returns-clause-seen : goal.returns-clause-seen
returns-clause-seen g c =
    let now = c.args.now.0 in
    let f : Filtering g.row.P.Denot = record { predicate = c.self.inside.predicate; kept = c.self.inside.cache.entries; ttl = c.self.inside.ttl; evicted = c.self.inside.last_evicted.0 } in
    let done = c.forget-self-inside in
    let is = swept-by now f c.reserve.new.self.entries done.new.cache.entries done.result.0 c.reserve.ensures.entries done.ensures.kept done.ensures.evicted in
    subst (λ (h : Filtering g.row.P.Denot). SameSights (sights_of c.see.new.cache.entries) (with_sight (sights_in h) c.args.key (record { value = c.args.value; seen = now }))) (is ∙ ap (swept now) c.self.view_is) c.see.ensures.seen
