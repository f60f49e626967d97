-- Forgetting sights that don't count changes nothing.
use Rattle.std.proofs.Common.{◌≡◌, ◌⊎◌, ◌≤◌, ℕ, Bool, true, false, cond, nat_eq, not, ◌&&◌, List, [], ◌∷◌, map, Option, Some, None, refl, sym, ap, ap₂, subst, ◌∙◌, inl, inr, arith}
use Rattle.std.proofs.lemmas.Bool.Decides.{nat_tests}
use Rattle.kube_meta.specs.declared.metadata.ObjectMeta.{ObjectMeta}
use Rattle.kube_streams.specs.Adapts.{NeverFall}
use Rattle.kube_streams.specs.Filters.{Key, Sight, Sights, same_key, with_sight, is_fresh, passes, lets_pass, sights_after, DoesNotCount, IsForgotten, SameSights, Filtering, filter_key, sights_in, swept, Showing, passing, Passing, Judgement, JudgedInTurn, AreShown, PassedWithoutForgetting}

module _ (ttl : ℕ) where
  -- some sights that don't count are missing
  abbrev Alike : ℕ → Sights → Sights → Type 0
  Alike now xs ys = (key : Key) → (xs key ≡ ys key) ⊎ ((xs key ≡ None) × DoesNotCount ttl now (ys key))

  stays-old : (now later : ℕ) (s : Sight) → now ≤ later → is_fresh ttl now s ≡ false → is_fresh ttl later s ≡ false
  stays-old now later s e f = grind (arith, nat_tests, e, f)

  no-count-later : (now later : ℕ) (o : Option Sight) → now ≤ later → DoesNotCount ttl now o → DoesNotCount ttl later o
  no-count-later now later None e d = tt
  no-count-later now later (Some s) e d = stays-old now later s e d

  later : (now after : ℕ) (xs ys : Sights) → now ≤ after → Alike now xs ys → Alike after xs ys
  later now after xs ys e a key = elim (a key) [ inl p ↦ inl p | inr p ↦ inr (p.0, no-count-later now after (ys key) e p.1) ]

  forgotten : (now : ℕ) (xs ys kept : Sights) → Alike now xs ys → IsForgotten ttl now xs kept → Alike now kept ys
  forgotten now xs ys kept a f key = forgotten-at (a key) (f key) where
    forgotten-at : (xs key ≡ ys key) ⊎ ((xs key ≡ None) × DoesNotCount ttl now (ys key)) → (kept key ≡ xs key) ⊎ ((kept key ≡ None) × DoesNotCount ttl now (xs key))
        → (kept key ≡ ys key) ⊎ ((kept key ≡ None) × DoesNotCount ttl now (ys key))
    forgotten-at (inl p) (inl q) = inl (q ∙ p)
    forgotten-at (inl p) (inr q) = inr (q.0, subst (λ o. DoesNotCount ttl now o) p q.1)
    forgotten-at (inr p) (inl q) = inr (q ∙ p.0, p.1)
    forgotten-at (inr p) (inr q) = inr (q.0, p.1)

  old-passes : (now value : ℕ) (o : Option Sight) → DoesNotCount ttl now o → passes ttl now o value ≡ true
  old-passes now value None d = refl
  old-passes now value (Some s) d = ap (λ b. not (b && nat_eq s.value value)) d

  same-passes : (now value : ℕ) (o p : Option Sight) → (o ≡ p) ⊎ ((o ≡ None) × DoesNotCount ttl now p) → passes ttl now o value ≡ passes ttl now p value
  same-passes now value o p (inl e) = ap (λ x. passes ttl now x value) e
  same-passes now value o p (inr e) = ap (λ x. passes ttl now x value) e.0 ∙ sym (old-passes now value p e.1)

  same-lets : (now : ℕ) (xs ys : Sights) (key : Key) (property : Option ℕ) → Alike now xs ys → lets_pass ttl now xs key property ≡ lets_pass ttl now ys key property
  same-lets now xs ys key None a = refl
  same-lets now xs ys key (Some value) a = same-passes now value (xs key) (ys key) (a key)

  seen-alike : (now : ℕ) (xs ys : Sights) (seen : Key) (sight : Sight) → Alike now xs ys → Alike now (with_sight xs seen sight) (with_sight ys seen sight)
  seen-alike now xs ys seen sight a key = at (same_key seen key) (a key) where
    at : (b : Bool) → (xs key ≡ ys key) ⊎ ((xs key ≡ None) × DoesNotCount ttl now (ys key))
        → (cond b (Some sight) (xs key) ≡ cond b (Some sight) (ys key)) ⊎ ((cond b (Some sight) (xs key) ≡ None) × DoesNotCount ttl now (cond b (Some sight) (ys key)))
    at true e = inl refl
    at false e = e

  after-alike : (now : ℕ) (xs ys : Sights) (key : Key) (property : Option ℕ) → Alike now xs ys → Alike now (sights_after now xs key property) (sights_after now ys key property)
  after-alike now xs ys key None a = a
  after-alike now xs ys key (Some value) a = seen-alike now xs ys key (record { value = value; seen = now }) a

  same-alike : (now : ℕ) (xs same ys : Sights) → SameSights xs same → Alike now same ys → Alike now xs ys
  same-alike now xs same ys e a key = elim (a key) [ inl p ↦ inl (e key ∙ p) | inr p ↦ inr (e key ∙ p.0, p.1) ]

  all-alike : (from : ℕ) (xs ys : Sights) (ss : List Showing) (bs : List Bool) → NeverFall from (map (λ s. s.at) ss) → Alike from xs ys → Passing ttl xs ss bs → bs ≡ passing ttl ys ss
  all-alike from xs ys [] bs r a p = p
  all-alike from xs ys (s ∷ ss) bs r a p =
      let left = p.0 in
      let now = forgotten s.at xs ys left (later from s.at xs ys r.0 a) p.4 in
      let after = same-alike s.at p.2 (sights_after s.at left s.key s.value) (sights_after s.at ys s.key s.value) p.5.1 (after-alike s.at left ys s.key s.value now) in
      p.7 ∙ ap₂ (λ b rest. b ∷ rest) (p.5.0 ∙ same-lets s.at left ys s.key s.value now) (all-alike s.at p.2 (sights_after s.at ys s.key s.value) ss p.3 r.1 after p.6)

  pub nothing-changes : (from : ℕ) (sights : Sights) (ss : List Showing) (bs : List Bool) → NeverFall from (map (λ s. s.at) ss) → Passing ttl sights ss bs → bs ≡ passing ttl sights ss
  nothing-changes from sights ss bs r p = all-alike from sights sights ss bs r (λ key. inl refl) p

-- objects that a filter judged, one after another
module _ {P O : Type 0} (gives : P → O → Option ℕ → Type 0) (meta : O → ObjectMeta) where
  record Shown (f : Filtering P) (js : List (Judgement O)) : Type 0 where
    pub showings : List Showing
    pub shown : AreShown gives meta f.predicate js showings
    pub moments : map (λ j. j.at) js ≡ map (λ s. s.at) showings
    pub passed : Passing f.ttl (sights_in f) showings (map (λ j. j.passed) js)

  all-shown : (f : Filtering P) (js : List (Judgement O)) (g : Filtering P) → JudgedInTurn gives meta f js g → Shown f js
  all-shown f [] g p = record { showings = []; shown = tt; moments = refl; passed = refl }
  all-shown f (j ∷ js) g p =
      let h = p.0 in
      let one = p.1 in
      let more = all-shown h js g p.2 in
      record {
        showings = record { at = j.at; key = filter_key (meta j.object); value = one.property } ∷ more.showings;
        shown = ((refl, refl, one.given_by), subst (λ predicate. AreShown gives meta predicate js more.showings) one.settings.0 more.shown);
        moments = ap (λ moments. j.at ∷ moments) more.moments;
        passed = (
          sights_in (swept j.at f),
          j.passed,
          sights_in h,
          map (λ x. x.passed) js,
          one.forgotten,
          one.judged,
          subst (λ ttl. Passing ttl (sights_in h) more.showings (map (λ x. x.passed) js)) one.settings.1 more.passed,
          refl,
        );
      }

  pub passed-without-forgetting : (from : ℕ) (f : Filtering P) (js : List (Judgement O)) (g : Filtering P) → NeverFall from (map (λ j. j.at) js) → JudgedInTurn gives meta f js g → PassedWithoutForgetting gives meta f js
  passed-without-forgetting from f js g r p =
      let all = all-shown f js g p in
      record {
        showings = all.showings;
        shown = all.shown;
        passed = nothing-changes f.ttl from (sights_in f) all.showings (map (λ j. j.passed) js) (subst (λ moments. NeverFall from moments) all.moments r) all.passed;
      }
