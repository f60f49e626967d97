use Rattle.std.proofs.Common.{true, Some, None, refl, sym, ap, subst, ◌∙◌}
use Rattle.kube_streams.specs.Filters.{Filtering, IsForgotten, Judged, KeepsSettings, SameSights, Sight, filter_key, passes, sights_in, swept, with_sight}
use Rattle.kube_streams.proofs.Evicted.{swept-keeps}
use Rattle.kube_streams.proofs.predicate_filter.Filter.judge.Goals as goal

pub returns-in-None-clause-judged : goal.returns-in-None-clause-judged
returns-in-None-clause-judged g c =
    let now = c.args.now.0 in
    let old = c.args.self.now in
    let after = c.evict.new.self in
    let e = c.evict.ensures in
    record {
      property = None;
      forgotten = subst (λ (h : Filtering g.row.P.Denot). IsForgotten old.ttl now (sights_in old) (sights_in h)) e.swept e.forgotten;
      given_by = subst (λ p. g.P.Predicate.gives p c.args.object.now None) (ap (λ (f : Filtering g.row.P.Denot). f.predicate) c.self.view_is) c.in-None.ensures.gives;
      judged = subst (λ (h : Filtering g.row.P.Denot). Judged old.ttl now (sights_in h) (filter_key (g.K.Resource.meta_of c.args.object.now)) None true (sights_in after)) e.swept (refl, λ key. refl);
      settings = subst (λ (h : Filtering g.row.P.Denot). KeepsSettings old h) (sym e.swept) (swept-keeps now old);
      evicted = ap (λ (h : Filtering g.row.P.Denot). h.evicted) e.swept;
    }

pub returns-in_ok-passed-in-Some-clause-judged : goal.returns-in_ok-passed-in-Some-clause-judged
returns-in_ok-passed-in-Some-clause-judged g c =
    let now = c.args.now.0 in
    let old = c.args.self.now in
    let value = c.in-Some.value in
    let sight : Sight = record { value = value; seen = now } in
    let named = c.in_ok-key-in-Some.ensures in
    let seen = c.in_ok-passed-in-Some.ensures in
    record {
      property = Some value;
      forgotten = seen.forgotten;
      given_by = subst (λ p. g.P.Predicate.gives p c.args.object.now (Some value)) (ap (λ (f : Filtering g.row.P.Denot). f.predicate) c.self.view_is) c.in-Some.ensures.gives;
      judged = (
        seen.passes ∙ ap (λ k. passes old.ttl now (sights_in (swept now old) k) value) named,
        subst (λ k. SameSights (sights_in c.see.new.self) (with_sight (sights_in (swept now old)) k sight)) named seen.seen,
      );
      settings = seen.settings;
      evicted = seen.evicted;
    }
