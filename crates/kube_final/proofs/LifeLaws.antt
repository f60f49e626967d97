-- What holds after each step of a life, and what follows for a life.
use Rattle.std.proofs.Common.{◌≡◌, ◌⊎◌, inl, inr, ℕ, zero, suc, ◌+◌, ◌<◌, ◌==◌, Bool, true, false, not, cond, ◌&&◌, ◌||◌, List, [], ◌∷◌, ◌++◌, take, drop, Option, Some, None, slice_get, refl, sym, ap, subst, ◌∙◌, arith, append-nil}
use Rattle.std.specs.Prelude.{fold, remove}
use Rattle.std.specs.List.{list_any, position_from}
use Rattle.std.specs.Str.{bytes_eq}
use Rattle.std.proofs.lemmas.Bool.{eqb-true}
use Rattle.std.proofs.Math.Bool.{or-false, or_assoc}
use Rattle.std.proofs.lemmas.List.{take-append-drop}
use Rattle.std.proofs.lemmas.List.Sums.{fold-append, sum_by-append}
use Rattle.std.proofs.lemmas.List.Folds.{list_any-append}
use Rattle.std.proofs.lemmas.List.Elements.{filter-append}
use Rattle.std.proofs.lemmas.Slice.Eq.{bytes_eq-Decides}
use Rattle.kube_final.specs.declared.finalizer.Decision.{Decision}
use Rattle.kube_final.specs.declared.finalizer.Decision.TheVariants.{Apply, Cleanup, AddFirst, AddMore, Nothing, Unnamed}
use Rattle.kube_final.specs.declared.life.LifeStep.{LifeStep}
use Rattle.kube_final.specs.declared.life.LifeStep.TheVariants.{Other, RequestDelete, Decide, ApplyStarts, CleanupStarts, CleanupEnds, Send, Arrive}
use Rattle.kube_final.specs.declared.life.LifeState.{LifeState}
use Rattle.kube_final.specs.Finalizers.{decided, first_index}
use Rattle.kube_final.specs.Lives.{Decided, Past, after, applies, arrived, beginning, cleaned_by, cleans, count_of, decided_on, decision_at, decision_of, decisions_after, ends_cleanup, is_among, is_at, is_empty, is_life, is_life_from, is_made, is_name, may_follow, may_send, others_in, past_of, patched_by, same_names, sent_by, starts_apply, state_after, state_at, state_of, with_decision}

-- ---- truth values, lists

and_parts : (a b : Bool) → (a && b) ≡ true → (a ≡ true) × (b ≡ true)
and_parts true b e = (refl, e)
and_parts false b e = (cc, cc)

or_cases : (a b : Bool) → (a || b) ≡ true → (a ≡ true) ⊎ (b ≡ true)
or_cases true b e = inl refl
or_cases false b e = inr e

or_parts : (a b : Bool) → (a || b) ≡ false → (a ≡ false) × (b ≡ false)
or_parts true b e = (cc, cc)
or_parts false b e = (refl, e)

not_both : (g : Bool) → g ≡ true → not g ≡ true → ⊥
not_both true e h = cc
not_both false e h = cc

cond_holds : {X : Type 0} (P : X → Type 0) (b : Bool) (s t : X) → P s → P t → P (cond b s t)
cond_holds P true s t p q = p
cond_holds P false s t p q = q

left_nil : {X : Type 0} (xs ys : List X) → xs ++ ys ≡ [] → xs ≡ []
left_nil [] ys e = refl
left_nil (x ∷ xs) ys e = cc

slice_get-more : {X : Type 0} (xs ys : List X) (k : ℕ) (x : X) → slice_get xs k ≡ Some x → slice_get (xs ++ ys) k ≡ Some x
slice_get-more [] ys k x e = cc
slice_get-more (z ∷ xs) ys zero x e = e
slice_get-more (z ∷ xs) ys (suc k) x e = slice_get-more xs ys k x e

slice_get-last : {X : Type 0} (xs : List X) (y : X) (k : ℕ) (x : X) → slice_get (xs ++ y ∷ []) k ≡ Some x → (slice_get xs k ≡ Some x) ⊎ (x ≡ y)
slice_get-last [] y zero x e = inr (cc)
slice_get-last [] y (suc k) x e = inl e
slice_get-last (z ∷ xs) y zero x e = inl e
slice_get-last (z ∷ xs) y (suc k) x e = slice_get-last xs y k x e

-- ---- names

same_name : (name : List ℕ) → bytes_eq name name ≡ true
same_name name = (bytes_eq-Decides name name).1 refl

count_one : (name : List ℕ) → 0 < count_of name (name ∷ [])
count_one name = rw (same_name name) (omega arith)

count_more : (name : List ℕ) (xs ys : List (List ℕ)) → 0 < count_of name xs → 0 < count_of name (xs ++ ys)
count_more name xs ys h = omega (arith, sum_by-append (λ x. cond (is_name name x) 1 0) xs ys)

count_empty : (name : List ℕ) (xs : List (List ℕ)) → is_empty xs ≡ true → 0 < count_of name xs → ⊥
count_empty name [] e h = omega arith
count_empty name (x ∷ xs) e h = cc

found_step : (b : Bool) (o : Option ℕ) (i j n : ℕ) → (o ≡ Some j → 0 < n) → cond b (Some i) o ≡ Some j → 0 < cond b 1 0 + n
found_step true o i j n later h = omega arith
found_step false o i j n later h = let k : 0 < n = later h in omega arith

found_counts : (name : List ℕ) (xs : List (List ℕ)) (i j : ℕ) → position_from (λ other. bytes_eq other name) i xs ≡ Some j → 0 < count_of name xs
found_counts name [] i j e = cc
found_counts name (x ∷ xs) i j e =
    let split : count_of name (x ∷ xs) ≡ 0 + cond (bytes_eq x name) 1 0 + count_of name xs = sum_by-append (λ y. cond (is_name name y) 1 0) (x ∷ []) xs in
    let here : 0 < cond (bytes_eq x name) 1 0 + count_of name xs = found_step (bytes_eq x name) (position_from (λ other. bytes_eq other name) (i + 1) xs) i j (count_of name xs) (found_counts name xs (i + 1) j) e in
    omega (arith, split, here)

not_applied : (deleting : Bool) (names : List (List ℕ)) → applies (decided true deleting None names) ≡ true → ⊥
not_applied true names e = cc
not_applied false [] e = cc
not_applied false (n ∷ ns) e = cc

applies_counts : (name : List ℕ) (deleting : Bool) (o : Option ℕ) (names xs : List (List ℕ)) → position_from (λ other. bytes_eq other name) 0 xs ≡ o → applies (decided true deleting o names) ≡ true → 0 < count_of name xs
applies_counts name deleting None names xs p e = absurd (not_applied deleting names e)
applies_counts name deleting (Some j) names xs p e = found_counts name xs 0 j p

-- an Apply is decided only where the name is there
decided_counts : (name : List ℕ) (s : LifeState) → applies (decided_on name s).decision ≡ true → 0 < count_of name s.finalizers
decided_counts name s e = applies_counts name s.deleting (first_index name s.finalizers) s.finalizers s.finalizers refl e

-- ---- patches leave the others as they are

removed_others : (name : List ℕ) (xs : List (List ℕ)) (i : ℕ) → is_at name (slice_get xs i) ≡ true → others_in name (remove xs i) ≡ others_in name xs
removed_others name [] i e = cc
removed_others name (x ∷ xs) zero e = rw e refl
removed_others name (x ∷ xs) (suc i) e = ap (λ r. cond (not (is_name name x)) (x ∷ r) r) (removed_others name xs i e)

added_others : (name : List ℕ) (xs : List (List ℕ)) → others_in name (xs ++ name ∷ []) ≡ others_in name xs
added_others name xs = filter-append (λ other. not (is_name name other)) xs (name ∷ []) ∙ rw (same_name name) (append-nil (others_in name xs))

patched_others : (name : List ℕ) (d : Decision) (seen xs : List (List ℕ)) → others_in name (patched_by name d seen xs) ≡ others_in name xs
patched_others name (Cleanup i) seen xs = removed_if (is_at name (slice_get xs i)) refl where
  removed_if : (b : Bool) → is_at name (slice_get xs i) ≡ b → others_in name (cond b (remove xs i) xs) ≡ others_in name xs
  removed_if true e = removed_others name xs i e
  removed_if false e = refl
patched_others name AddFirst seen [] = rw (same_name name) refl
patched_others name AddFirst seen (x ∷ xs) = refl
patched_others name AddMore seen xs = cond_holds (λ r. others_in name r ≡ others_in name xs) (same_names seen xs) (xs ++ name ∷ []) xs (added_others name xs) refl
patched_others name Apply seen xs = refl
patched_others name Nothing seen xs = refl
patched_others name Unnamed seen xs = refl

arrived_others : (name : List ℕ) (s : LifeState) (o : Option Decided) → others_in name (arrived name s o).finalizers ≡ others_in name s.finalizers
arrived_others name s None = refl
arrived_others name s (Some d) =
    cond_holds (λ t. others_in name t.finalizers ≡ others_in name s.finalizers) s.gone s (state_of (patched_by name d.decision d.seen s.finalizers) s.deleting) refl (patched_others name d.decision d.seen s.finalizers)

pub arrival_keeps_others : (name : List ℕ) (front : List LifeStep) (send : ℕ) → others_in name (past_of name (front ++ Arrive send ∷ [])).current.finalizers ≡ others_in name (past_of name front).current.finalizers
arrival_keeps_others name front send =
    let p = past_of name front in
    ap (λ q. others_in name q.current.finalizers) (fold-append (after name) beginning front (Arrive send ∷ []))
    ∙ arrived_others name p.current (decision_of p (slice_get p.sent send))

-- ---- what holds after each step

-- where no Cleanup succeeded, the name is there
abbrev Kept : List ℕ → Past → Type 0
Kept name p = p.cleaned ≡ [] → 0 < count_of name p.current.finalizers

-- the patch of a decision is sent only where there is such a decision, and one of a Cleanup only after one succeeded
record IsSentWell (p : Past) (m : ℕ) : Type 0 where
  decided : Decided
  is : decision_at p m ≡ Some decided
  cleaned : cleans decided.decision ≡ true → p.cleaned ≡ [] → ⊥

-- where the name was seen, an Apply was decided or has started, the name is kept
record IsSound (name : List ℕ) (applied : Bool) (p : Past) : Type 0 where
  shape : p.current.gone ≡ (p.current.deleting && is_empty p.current.finalizers)
  seen : (k : ℕ) (s : LifeState) → state_at p k ≡ Some s → 0 < count_of name s.finalizers → Kept name p
  made : (k : ℕ) (d : Decided) → decision_at p k ≡ Some d → applies d.decision ≡ true → Kept name p
  sent : (k m : ℕ) → slice_get p.sent k ≡ Some m → IsSentWell p m
  applied_kept : applied ≡ true → Kept name p

-- ---- a step keeps the name

patched_kept : (name : List ℕ) (d : Decision) (seen xs : List (List ℕ)) → (cleans d ≡ true → ⊥) → 0 < count_of name xs → 0 < count_of name (patched_by name d seen xs)
patched_kept name (Cleanup i) seen xs c h = absurd (c refl)
patched_kept name AddFirst seen xs c h = cond_holds (λ r. 0 < count_of name r) (is_empty xs) (name ∷ []) xs (count_one name) h
patched_kept name AddMore seen xs c h = cond_holds (λ r. 0 < count_of name r) (same_names seen xs) (xs ++ name ∷ []) xs (count_more name xs (name ∷ []) h) h
patched_kept name Apply seen xs c h = h
patched_kept name Nothing seen xs c h = h
patched_kept name Unnamed seen xs c h = h

arrived_kept : (name : List ℕ) (s : LifeState) (d : Decided) → (cleans d.decision ≡ true → ⊥) → 0 < count_of name s.finalizers → 0 < count_of name (arrived name s (Some d)).finalizers
arrived_kept name s d c h =
    cond_holds (λ t. 0 < count_of name t.finalizers) s.gone s (state_of (patched_by name d.decision d.seen s.finalizers) s.deleting) h (patched_kept name d.decision d.seen s.finalizers c h)

arrival_kept : (name : List ℕ) (p : Past) (o : Option ℕ) → ((m : ℕ) → o ≡ Some m → IsSentWell p m) → p.cleaned ≡ [] → 0 < count_of name p.current.finalizers → 0 < count_of name (arrived name p.current (decision_of p o)).finalizers
arrival_kept name p None w n h = h
arrival_kept name p (Some m) w n h =
    let x = w m refl in
    let P : Option Decided → Type 0 = λ o. 0 < count_of name (arrived name p.current o).finalizers in
    subst P (sym x.is) (arrived_kept name p.current x.decided (λ c. x.cleaned c n) h)

kept_after : (name : List ℕ) (a : Bool) (p : Past) (step : LifeStep) → IsSound name a p → may_follow name p step ≡ true → Kept name p → Kept name (after name p step)
kept_after name a p (Other finalizers) s m k e =
    let h : 0 < count_of name p.current.finalizers = k (left_nil p.cleaned [] e) in
    let same : count_of name finalizers ≡ count_of name p.current.finalizers = eqb-true (count_of name finalizers) (count_of name p.current.finalizers) (and_parts (not p.current.gone) (count_of name finalizers == count_of name p.current.finalizers) m).1 in
    omega (arith, h, same)
kept_after name a p RequestDelete s m k e = k (left_nil p.cleaned [] e)
kept_after name a p (Decide sight) s m k e = k (left_nil p.cleaned [] e)
kept_after name a p (ApplyStarts d) s m k e = k (left_nil p.cleaned [] e)
kept_after name a p (CleanupStarts d) s m k e = k (left_nil p.cleaned [] e)
kept_after name a p (CleanupEnds d ok) s m k e = k (left_nil p.cleaned (cleaned_by (CleanupEnds d ok)) e)
kept_after name a p (Send d) s m k e = k (left_nil p.cleaned [] e)
kept_after name a p (Arrive n) s m k e =
    let nil : p.cleaned ≡ [] = left_nil p.cleaned [] e in
    arrival_kept name p (slice_get p.sent n) (λ i h. s.sent n i h) nil (k nil)

-- ---- each part after a step

arrived_shape : (name : List ℕ) (s : LifeState) (o : Option Decided) → s.gone ≡ (s.deleting && is_empty s.finalizers) → (arrived name s o).gone ≡ ((arrived name s o).deleting && is_empty (arrived name s o).finalizers)
arrived_shape name s None h = h
arrived_shape name s (Some d) h =
    cond_holds (λ t. t.gone ≡ (t.deleting && is_empty t.finalizers)) s.gone s (state_of (patched_by name d.decision d.seen s.finalizers) s.deleting) h refl

shape_after : (name : List ℕ) (p : Past) (step : LifeStep) → p.current.gone ≡ (p.current.deleting && is_empty p.current.finalizers)
    → (state_after name p step).gone ≡ ((state_after name p step).deleting && is_empty (state_after name p step).finalizers)
shape_after name p (Other finalizers) h = refl
shape_after name p RequestDelete h = refl
shape_after name p (Decide sight) h = h
shape_after name p (ApplyStarts d) h = h
shape_after name p (CleanupStarts d) h = h
shape_after name p (CleanupEnds d ok) h = h
shape_after name p (Send d) h = h
shape_after name p (Arrive n) h = arrived_shape name p.current (decision_of p (slice_get p.sent n)) h

with_decision_cases : (name : List ℕ) (o : Option LifeState) (ds : List Decided) (k : ℕ) (d : Decided) → slice_get (with_decision name o ds) k ≡ Some d
    → (slice_get ds k ≡ Some d) ⊎ ((s : LifeState) × (o ≡ Some s) × (d ≡ decided_on name s))
with_decision_cases name None ds k d e = inl e
with_decision_cases name (Some s) ds k d e = elim (slice_get-last ds (decided_on name s) k d e) [ inl h ↦ inl h | inr h ↦ inr (s, refl, h) ]

decisions_cases : (name : List ℕ) (p : Past) (step : LifeStep) (k : ℕ) (d : Decided) → slice_get (decisions_after name p step) k ≡ Some d
    → (decision_at p k ≡ Some d) ⊎ ((sight : ℕ) × (s : LifeState) × (state_at p sight ≡ Some s) × (d ≡ decided_on name s))
decisions_cases name p (Decide sight) k d e =
    elim (with_decision_cases name (state_at p sight) p.decisions k d e) [ inl h ↦ inl h | inr h ↦ inr (sight, h.0, h.1, h.2) ]
decisions_cases name p (Other finalizers) k d e = inl e
decisions_cases name p RequestDelete k d e = inl e
decisions_cases name p (ApplyStarts n) k d e = inl e
decisions_cases name p (CleanupStarts n) k d e = inl e
decisions_cases name p (CleanupEnds n ok) k d e = inl e
decisions_cases name p (Send n) k d e = inl e
decisions_cases name p (Arrive n) k d e = inl e

with_decision_stays : (name : List ℕ) (o : Option LifeState) (ds : List Decided) (k : ℕ) (d : Decided) → slice_get ds k ≡ Some d → slice_get (with_decision name o ds) k ≡ Some d
with_decision_stays name None ds k d e = e
with_decision_stays name (Some s) ds k d e = slice_get-more ds (decided_on name s ∷ []) k d e

decision_stays : (name : List ℕ) (p : Past) (step : LifeStep) (k : ℕ) (d : Decided) → decision_at p k ≡ Some d → slice_get (decisions_after name p step) k ≡ Some d
decision_stays name p (Decide sight) k d e = with_decision_stays name (state_at p sight) p.decisions k d e
decision_stays name p (Other finalizers) k d e = e
decision_stays name p RequestDelete k d e = e
decision_stays name p (ApplyStarts n) k d e = e
decision_stays name p (CleanupStarts n) k d e = e
decision_stays name p (CleanupEnds n ok) k d e = e
decision_stays name p (Send n) k d e = e
decision_stays name p (Arrive n) k d e = e

sent_well_after : (name : List ℕ) (p : Past) (step : LifeStep) (m : ℕ) → IsSentWell p m → IsSentWell (after name p step) m
sent_well_after name p step m w = record {
  decided = w.decided;
  is = decision_stays name p step m w.decided w.is;
  cleaned = λ c n. w.cleaned c (left_nil p.cleaned (cleaned_by step) n);
}

-- a patch of a Cleanup may be sent only where one is among those that succeeded
may_send_cleans : (b : Bool) (d : Decision) → may_send b d ≡ true → cleans d ≡ true → b ≡ true
may_send_cleans b (Cleanup i) e c = e
may_send_cleans b AddFirst e c = cc
may_send_cleans b AddMore e c = cc
may_send_cleans b Apply e c = cc
may_send_cleans b Nothing e c = cc
may_send_cleans b Unnamed e c = cc

among_none : (m : ℕ) (ns : List ℕ) → ns ≡ [] → is_among m ns ≡ true → ⊥
among_none m [] n e = cc
among_none m (x ∷ ns) n e = cc

sent_well_new : (p : Past) (m : ℕ) (o : Option Decided) → decision_at p m ≡ o → is_made (may_send (is_among m p.cleaned)) o ≡ true → IsSentWell p m
sent_well_new p m None e h = cc
sent_well_new p m (Some d) e h = record { decided = d; is = e; cleaned = λ c n. among_none m p.cleaned n (may_send_cleans (is_among m p.cleaned) d.decision h c) }

sent_before : (p : Past) (k m : ℕ) → slice_get (p.sent ++ []) k ≡ Some m → slice_get p.sent k ≡ Some m
sent_before p k m e = let P : List ℕ → Type 0 = λ ns. slice_get ns k ≡ Some m in subst P (append-nil p.sent) e

sent_after : (name : List ℕ) (a : Bool) (p : Past) (step : LifeStep) → IsSound name a p → may_follow name p step ≡ true → (k m : ℕ) → slice_get (p.sent ++ sent_by step) k ≡ Some m → IsSentWell p m
sent_after name a p (Send d) s h k m e =
    elim (slice_get-last p.sent d k m e) [
      | inl old ↦ s.sent k m old
      | inr new ↦ let P : ℕ → Type 0 = λ n. IsSentWell p n in subst P (sym new) (sent_well_new p d (decision_at p d) refl h)
    ]
sent_after name a p (Other finalizers) s h k m e = s.sent k m (sent_before p k m e)
sent_after name a p RequestDelete s h k m e = s.sent k m (sent_before p k m e)
sent_after name a p (Decide sight) s h k m e = s.sent k m (sent_before p k m e)
sent_after name a p (ApplyStarts d) s h k m e = s.sent k m (sent_before p k m e)
sent_after name a p (CleanupStarts d) s h k m e = s.sent k m (sent_before p k m e)
sent_after name a p (CleanupEnds d ok) s h k m e = s.sent k m (sent_before p k m e)
sent_after name a p (Arrive n) s h k m e = s.sent k m (sent_before p k m e)

-- there is a decision that passes
made_there : (q : Decision → Bool) (o : Option Decided) → is_made q o ≡ true → (d : Decided) × (o ≡ Some d) × (q d.decision ≡ true)
made_there q None e = cc
made_there q (Some d) e = (d, refl, e)

starts_kept : (name : List ℕ) (a : Bool) (p : Past) (step : LifeStep) → IsSound name a p → may_follow name p step ≡ true → starts_apply step ≡ true → Kept name p
starts_kept name a p (ApplyStarts d) s h e = let x = made_there applies (decision_at p d) h in s.made d x.0 x.1 x.2
starts_kept name a p (Other finalizers) s h e = absurd (cc)
starts_kept name a p RequestDelete s h e = absurd (cc)
starts_kept name a p (Decide sight) s h e = absurd (cc)
starts_kept name a p (CleanupStarts d) s h e = absurd (cc)
starts_kept name a p (CleanupEnds d ok) s h e = absurd (cc)
starts_kept name a p (Send d) s h e = absurd (cc)
starts_kept name a p (Arrive n) s h e = absurd (cc)

sound_after : (name : List ℕ) (a : Bool) (p : Past) (step : LifeStep) → IsSound name a p → may_follow name p step ≡ true → IsSound name (a || starts_apply step) (after name p step)
sound_after name a p step s h = record {
  shape = shape_after name p step s.shape;
  seen = λ k t e c. elim (slice_get-last (p.before ++ p.current ∷ []) (state_after name p step) k t e) [
    | inl old ↦ kept_after name a p step s h (s.seen k t old c)
    | inr new ↦ (λ _. let P : LifeState → Type 0 = λ u. 0 < count_of name u.finalizers in subst P new c)
  ];
  made = λ k d e c. elim (decisions_cases name p step k d e) [
    | inl old ↦ kept_after name a p step s h (s.made k d old c)
    | inr new ↦ let P : Decided → Type 0 = λ x. applies x.decision ≡ true in
        kept_after name a p step s h (s.seen new.0 new.1 new.2 (decided_counts name new.1 (subst P new.3 c)))
  ];
  sent = λ k m e. sent_well_after name p step m (sent_after name a p step s h k m e);
  applied_kept = λ e. elim (or_cases a (starts_apply step) e) [
    | inl old ↦ kept_after name a p step s h (s.applied_kept old)
    | inr new ↦ kept_after name a p step s h (starts_kept name a p step s h new)
  ];
}

first_seen : (name : List ℕ) (k : ℕ) (s : LifeState) → state_at beginning k ≡ Some s → 0 < count_of name s.finalizers → Kept name beginning
first_seen name zero s e c = let same : s ≡ beginning.current = cc in let P : LifeState → Type 0 = λ t. 0 < count_of name t.finalizers in λ _. subst P same c
first_seen name (suc k) s e c = absurd (cc)

sound_first : (name : List ℕ) → IsSound name false beginning
sound_first name = record {
  shape = refl;
  seen = λ k s e c. first_seen name k s e c;
  made = λ k d e c. cc;
  sent = λ k m e. absurd (cc);
  applied_kept = λ e. absurd (cc);
}

sound_run : (name : List ℕ) (a : Bool) (p : Past) (steps rest : List LifeStep) → IsSound name a p → is_life_from name p (steps ++ rest) ≡ true → IsSound name (a || list_any starts_apply steps) (fold (after name) p steps)
sound_run name a p [] rest s h = let P : Bool → Type 0 = λ b. IsSound name b p in subst P (sym (or-false a)) s
sound_run name a p (step ∷ steps) rest s h =
    let m = and_parts (may_follow name p step) (is_life_from name (after name p step) (steps ++ rest)) h in
    let P : Bool → Type 0 = λ b. IsSound name b (fold (after name) (after name p step) steps) in
    subst P (or_assoc a (starts_apply step) (list_any starts_apply steps)) (sound_run name (a || starts_apply step) (after name p step) steps rest (sound_after name a p step s m.0) m.1)

life_rest : (name : List ℕ) (p : Past) (steps rest : List LifeStep) → is_life_from name p (steps ++ rest) ≡ true → is_life_from name (fold (after name) p steps) rest ≡ true
life_rest name p [] rest h = h
life_rest name p (step ∷ steps) rest h = life_rest name (after name p step) steps rest (and_parts (may_follow name p step) (is_life_from name (after name p step) (steps ++ rest)) h).1

-- ---- once the object has gone, and the name was in no state in which it was there, no Apply ever starts

record IsBarren (name : List ℕ) (p : Past) : Type 0 where
  gone : p.current.gone ≡ true
  bare : 0 < count_of name p.current.finalizers → ⊥
  states : (k : ℕ) (s : LifeState) → state_at p k ≡ Some s → 0 < count_of name s.finalizers → ⊥
  made : (k : ℕ) (d : Decided) → decision_at p k ≡ Some d → applies d.decision ≡ true → ⊥

gone_arrived : (name : List ℕ) (s : LifeState) (o : Option Decided) → s.gone ≡ true → arrived name s o ≡ s
gone_arrived name s None g = refl
gone_arrived name s (Some d) g = rw g refl

gone_stays : (name : List ℕ) (p : Past) (step : LifeStep) → p.current.gone ≡ true → may_follow name p step ≡ true → state_after name p step ≡ p.current
gone_stays name p (Other finalizers) g m = absurd (not_both p.current.gone g (and_parts (not p.current.gone) (count_of name finalizers == count_of name p.current.finalizers) m).0)
gone_stays name p RequestDelete g m = absurd (not_both p.current.gone g m)
gone_stays name p (Decide sight) g m = refl
gone_stays name p (ApplyStarts d) g m = refl
gone_stays name p (CleanupStarts d) g m = refl
gone_stays name p (CleanupEnds d ok) g m = refl
gone_stays name p (Send d) g m = refl
gone_stays name p (Arrive n) g m = gone_arrived name p.current (decision_of p (slice_get p.sent n)) g

barren_after : (name : List ℕ) (p : Past) (step : LifeStep) → IsBarren name p → may_follow name p step ≡ true → IsBarren name (after name p step)
barren_after name p step b m =
    let same : state_after name p step ≡ p.current = gone_stays name p step b.gone m in
    let Bare : LifeState → Type 0 = λ s. 0 < count_of name s.finalizers → ⊥ in
    let bare : 0 < count_of name (state_after name p step).finalizers → ⊥ = subst Bare (sym same) b.bare in
    record {
      gone = let P : LifeState → Type 0 = λ s. s.gone ≡ true in subst P (sym same) b.gone;
      bare = bare;
      states = λ k s e c. elim (slice_get-last (p.before ++ p.current ∷ []) (state_after name p step) k s e) [
        | inl old ↦ b.states k s old c
        | inr new ↦ bare (let P : LifeState → Type 0 = λ u. 0 < count_of name u.finalizers in subst P new c)
      ];
      made = λ k d e c. elim (decisions_cases name p step k d e) [
        | inl old ↦ b.made k d old c
        | inr new ↦ let P : Decided → Type 0 = λ x. applies x.decision ≡ true in b.states new.0 new.1 new.2 (decided_counts name new.1 (subst P new.3 c))
      ];
    }

barren_starts : (name : List ℕ) (p : Past) (step : LifeStep) → IsBarren name p → may_follow name p step ≡ true → starts_apply step ≡ false
barren_starts name p (ApplyStarts d) b m = let x = made_there applies (decision_at p d) m in absurd (b.made d x.0 x.1 x.2)
barren_starts name p (Other finalizers) b m = refl
barren_starts name p RequestDelete b m = refl
barren_starts name p (Decide sight) b m = refl
barren_starts name p (CleanupStarts d) b m = refl
barren_starts name p (CleanupEnds d ok) b m = refl
barren_starts name p (Send d) b m = refl
barren_starts name p (Arrive n) b m = refl

barren_run : (name : List ℕ) (p : Past) (steps : List LifeStep) → IsBarren name p → is_life_from name p steps ≡ true → list_any starts_apply steps ≡ false
barren_run name p [] b h = refl
barren_run name p (step ∷ steps) b h =
    let m = and_parts (may_follow name p step) (is_life_from name (after name p step) steps) h in
    rw (barren_starts name p step b m.0) (barren_run name (after name p step) steps (barren_after name p step b m.0) m.1)

-- ---- the law

cleaned_none : (step : LifeStep) → ends_cleanup step ≡ false → cleaned_by step ≡ []
cleaned_none (CleanupEnds d true) e = absurd (cc)
cleaned_none (CleanupEnds d false) e = refl
cleaned_none (Other finalizers) e = refl
cleaned_none RequestDelete e = refl
cleaned_none (Decide sight) e = refl
cleaned_none (ApplyStarts d) e = refl
cleaned_none (CleanupStarts d) e = refl
cleaned_none (Send d) e = refl
cleaned_none (Arrive n) e = refl

cleaned_nil : (name : List ℕ) (p : Past) (steps : List LifeStep) → p.cleaned ≡ [] → list_any ends_cleanup steps ≡ false → (fold (after name) p steps).cleaned ≡ []
cleaned_nil name p [] n e = n
cleaned_nil name p (step ∷ steps) n e =
    let m = or_parts (ends_cleanup step) (list_any ends_cleanup steps) e in
    cleaned_nil name (after name p step) steps (rw (n, cleaned_none step m.0) refl) m.1

gone_is_empty : (g d e : Bool) → g ≡ (d && e) → g ≡ true → e ≡ true
gone_is_empty g true e s h = sym s ∙ h
gone_is_empty g false e s h = absurd (cc)

none_gone : (name : List ℕ) (front back : List LifeStep) → is_life name (front ++ back) ≡ true → list_any starts_apply (front ++ back) ≡ true
    → (past_of name front).current.gone ≡ true → list_any ends_cleanup front ≡ false → ⊥
none_gone name front back v a g c =
    let p = past_of name front in
    let s : IsSound name (list_any starts_apply front) p = sound_run name false beginning front back (sound_first name) v in
    let nil : p.cleaned ≡ [] = cleaned_nil name beginning front refl c in
    let empty : is_empty p.current.finalizers ≡ true = gone_is_empty p.current.gone p.current.deleting (is_empty p.current.finalizers) s.shape g in
    let bare : 0 < count_of name p.current.finalizers → ⊥ = count_empty name p.current.finalizers empty in
    let barren : IsBarren name p = record {
      gone = g;
      bare = bare;
      states = λ k t e h. bare (s.seen k t e h nil);
      made = λ k d e h. bare (s.made k d e h nil);
    } in
    elim (or_cases (list_any starts_apply front) (list_any starts_apply back) (sym (list_any-append starts_apply front back) ∙ a)) [
      | inl early ↦ bare (s.applied_kept early nil)
      | inr late ↦ let never : list_any starts_apply back ≡ false = barren_run name p back barren (life_rest name beginning front back v) in cc
    ]

cleaned_or_not : (b : Bool) → (b ≡ false → ⊥) → b ≡ true
cleaned_or_not true h = refl
cleaned_or_not false h = absurd (h refl)

pub goes_after_cleanup : (name : List ℕ) (life : List LifeStep) (n : ℕ) → is_life name life ≡ true → list_any starts_apply life ≡ true
    → (past_of name (take n life)).current.gone ≡ true → list_any ends_cleanup (take n life) ≡ true
goes_after_cleanup name life n v a g =
    let whole : life ≡ take n life ++ drop n life = sym (take-append-drop n life) in
    let IsLife : List LifeStep → Type 0 = λ l. is_life name l ≡ true in
    let Starts : List LifeStep → Type 0 = λ l. list_any starts_apply l ≡ true in
    cleaned_or_not (list_any ends_cleanup (take n life)) (none_gone name (take n life) (drop n life) (subst IsLife whole v) (subst Starts whole a) g)
