use Rattle.std.proofs.Common.{◌≡◌, ◌<◌, ◌≤◌, ℕ, ◌+◌, ◌-◌, ◌∙◌, ◌⊎◌, inl, inr, arith, ap, sym, subst}
use Rattle.std.specs.declared.cmp.Ordering.{Ordering}
use Rattle.std.specs.declared.cmp.Ordering.TheVariants.{Less, Equal, Greater}
use Rattle.std.proofs.lemmas.Grind.{common_steps}
use Rattle.std.proofs.lemmas.Bool.{cases_order}
use Rattle.kube_meta.specs.Keys.{reference_of}
use Rattle.kube_meta.specs.Reference.{Reference}
use Rattle.kube_reflect.specs.Indexes.{reference_cmp, no_reference, references, key_at, AreAll}
use Rattle.kube_reflect.specs.Views.{stored_of, all_stored}
use Rattle.kube_reflect.proofs.Indexed.{length-references}
use Rattle.kube_reflect.proofs.Sorting.{key_seen, indexed_all}
use Rattle.kube_reflect.proofs.places.rise.Goals as goal

-- one neighbour more
one_more : (f : ℕ → Reference) (i : ℕ) → 1 ≤ i → ((j : ℕ) → j + 1 < i → reference_cmp (f j) (f (j + 1)) ≡ Less) → reference_cmp (f (i - 1)) (f i) ≡ Less
    → (j : ℕ) → j + 1 < i + 1 → reference_cmp (f j) (f (j + 1)) ≡ Less
one_more f i low rises here j h = by (cases_order (j + 1) i)
  where
    by : (j + 1 ≡ i) ⊎ ((j + 1 < i) ⊎ (i < j + 1)) → reference_cmp (f j) (f (j + 1)) ≡ Less
    by (inl e) = ap (λ k. reference_cmp (f k) (f (j + 1))) (omega arith) ∙ (ap (λ k. reference_cmp (f (i - 1)) (f k)) e ∙ here)
    by (inr (inl l)) = rises j l
    by (inr (inr l)) = absurd (omega arith)

-- what is no less isn't less
not_below : (o : Ordering) → (o ≡ Equal) ⊎ (o ≡ Greater) → o ≡ Less → ⊥
not_below o (inl e) l = grind (arith, common_steps, e, l)
not_below o (inr e) l = grind (arith, common_steps, e, l)

pub loop-i-preserved : goal.loop-i-preserved
loop-i-preserved g c =
    let type_of = g.K.Resource.type_of in
    let items = c.args.items.now in
    let places = c.args.places.now in
    let f = key_at reference_cmp no_reference (references (all_stored type_of items)) places in
    let i = c.loop-i.i in
    let len = c.requires.len in
    let inv = c.loop-i.invariant in
    let first = inv.0 in
    let low = key_seen type_of items places (i - 1) c.index-items-places.result c.deref-before.result.now (c.requires.within (i - 1) (omega arith)) c.index-items-places.is c.deref-before.ensures in
    let high = key_seen type_of items places i c.index-items-places-in-loop-i.result c.deref.result.now (c.requires.within i (omega arith)) c.index-items-places-in-loop-i.is c.deref.ensures in
    let here : reference_cmp (f (i - 1)) (f i) ≡ Less =
    ap (λ r. reference_cmp r (f i)) (sym low)
    ∙ (ap (λ r. reference_cmp (reference_of type_of c.deref-before.result.now) r) (sym high) ∙ (sym c.compare.ensures ∙ c.in-Less.is)) in
    (omega arith, one_more f i first inv.1 here)

pub returns-clause-index : goal.returns-clause-index
returns-clause-index g c t =
    let type_of = g.K.Resource.type_of in
    let items = c.args.items.now in
    let places = c.args.places.now in
    let len = c.requires.len in
    let count = length-references (stored_of type_of) items in
    indexed_all (references (all_stored type_of items)) places (subst (λ n. AreAll n places) (sym count) c.requires) (λ j h. c.loop-i.invariant.1 j (omega arith))

pub returns-in-Equal : goal.returns-in-Equal
returns-in-Equal g c =
    let type_of = g.K.Resource.type_of in
    let items = c.args.items.now in
    let places = c.args.places.now in
    let f = key_at reference_cmp no_reference (references (all_stored type_of items)) places in
    let i = c.loop-i.i in
    let inv = c.loop-i.invariant in
    let first = inv.0 in
    let len = c.requires.len in
    let count = length-references (stored_of type_of) items in
    let low = key_seen type_of items places (i - 1) c.index-items-places.result c.deref-before.result.now (c.requires.within (i - 1) (omega arith)) c.index-items-places.is c.deref-before.ensures in
    let high = key_seen type_of items places i c.index-items-places-in-loop-i.result c.deref.result.now (c.requires.within i (omega arith)) c.index-items-places-in-loop-i.is c.deref.ensures in
    let is = c.in-Equal.is in
    let compared : reference_cmp (f (i - 1)) (f i) ≡ c.compare.result =
    ap (λ r. reference_cmp r (f i)) (sym low)
    ∙ (ap (λ r. reference_cmp (reference_of type_of c.deref-before.result.now) r) (sym high) ∙ sym c.compare.ensures) in
    record {
      index = λ e. absurd (grind (arith, common_steps, e));
      all = λ index. absurd (not_below c.compare.result is (sym compared ∙ index.rises (i - 1) i (omega arith) (omega arith)));
    }
