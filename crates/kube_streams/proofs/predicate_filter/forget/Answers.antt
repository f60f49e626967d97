use Rattle.std.proofs.Common.{◌≡◌, rules, false, nat_lt, ◌-◌, sym, ap, subst, ◌∙◌, arith, if◌then◌else◌}
use Rattle.std.proofs.lemmas.Bool.Decides.{nat_tests}
use Rattle.std.specs.List.{filter}
use Rattle.indexmap.proofs.CallerLemmas.{filter-RetainsPairs}
use Rattle.kube_streams.specs.Filters.{IsForgotten, sights_of}
use Rattle.kube_streams.specs.Filters.{is_fresh as is_fresh_at}
use Rattle.kube_streams.proofs.Evicted.{kept-fresh}
use Rattle.kube_streams.proofs.predicate_filter.forget.Goals as goal

pub returns-clause-kept : goal.returns-clause-kept
returns-clause-kept c =
    let now = c.args.now.0 in
    let es = c.args.cache.now.entries in
    let due : nat_lt (now - c.args.last_evicted.0) c.args.ttl ≡ false = (let r = c.saturating_sub.ensures in let t = c.if-saturating_sub-ttl.false in grind (arith, nat_tests, r, t)) in
    filter-RetainsPairs _ (λ e. is_fresh_at c.args.ttl now e.1) _ (λ k v b w h call. search rules) _ _ c.retain.ensures.filtered
    ∙ sym (ap (λ b. if b then es else filter (λ e. is_fresh_at c.args.ttl now e.1) es) due)

pub returns-clause-forgotten : goal.returns-clause-forgotten
returns-clause-forgotten c =
    let now = c.args.now.0 in
    let ttl = c.args.ttl in
    let es = c.args.cache.now.entries in
    let kept : c.retain.new.self.entries ≡ filter (λ e. is_fresh_at ttl now e.1) es =
    filter-RetainsPairs _ (λ e. is_fresh_at ttl now e.1) _ (λ k v b w h call. search rules) _ _ c.retain.ensures.filtered in
    subst (λ ks. IsForgotten ttl now (sights_of es) (sights_of ks)) (sym kept) (kept-fresh ttl now es c.len-count.ensures.unique)
