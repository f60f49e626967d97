-- The finishes of a valid turn: each ran.
use Rattle.std.proofs.Common.{◌≡◌, ℕ, ◌+◌, Bool, true, false, not, cond, ◌||◌, List, [], ◌∷◌, ◌++◌, map, Option, Some, None, if◌then◌else◌, refl, sym, ap, subst, ◌∙◌}
use Rattle.std.specs.List.{filter, fold, list_any}
use Rattle.std.proofs.lemmas.Bool.{false≢true}
use Rattle.kube_meta.specs.Reference.{Reference, same_reference}
use Rattle.kube_meta.specs.ReferenceLaws.{same_reference_equiv}
use Rattle.kube_model.specs.History.{Finish, Finished}
use Rattle.kube_model.specs.Takes.{Running, runs, unfinished}
use Rattle.kube_model.specs.Traces.{NotRunning, Twice, refused_finish, AreFinishesOf}
use Rattle.kube_model.proofs.Alls.{or-left, or-right}
use Rattle.kube_model.proofs.Histories.{unfinished-append}
use Rattle.kube_history.specs.CoreWorld.{CoreWorld}
use Rattle.kube_history.specs.CoreEvents.{CoreEvent, running_with, running_of}
use Rattle.kube_history.specs.TurnEvents.{finish_event}
use Rattle.kube_history.proofs.Segments.{running-append, AreReplies}

-- the finishes are the turn's
pub finishes-are : {O : Type 0} (policies : ℕ → O → Option ℕ) (rs : List (Running O)) (fins : List Finish) (fs : List Finished) → AreFinishesOf policies rs fins fs
    → map (λ (f : Finished). f.finish) fs ≡ fins
finishes-are policies rs [] fs z = ap (map (λ (f : Finished). f.finish)) z
finishes-are policies rs (f ∷ fins) [] z = absurd z
finishes-are policies rs (f ∷ fins) (g ∷ fs) z =
    ap (λ x. x ∷ map (λ (f : Finished). f.finish) fs) z.0.finish ∙ ap (λ xs. f ∷ xs) (finishes-are (λ n. policies (n + 1)) rs fins fs z.1)

module _ {O : Type 0} where
  -- what runs when one reference is finished
  abbrev pub ended : List (Running O) → Reference → List (Running O)
  ended rs g = filter (λ p. not (same_reference p.reference g)) rs

  one-unfinished : (rs : List (Running O)) (f : Finish) → ended rs f.reference ≡ unfinished rs (f ∷ [])
  one-unfinished [] f = refl
  one-unfinished (p ∷ ps) f =
      ap (λ b. cond (not b) (p ∷ ended ps f.reference) (ended ps f.reference)) (same_reference_equiv.symm p.reference f.reference ∙ no-more (same_reference f.reference p.reference))
      ∙ ap (λ qs. cond (not (same_reference f.reference p.reference || false)) (p ∷ qs) qs) (one-unfinished ps f)
    where
      no-more : (b : Bool) → b ≡ (b || false)
      no-more true = refl
      no-more false = refl

  unfinished-none : (rs : List (Running O)) → unfinished rs [] ≡ rs
  unfinished-none [] = refl
  unfinished-none (p ∷ ps) = ap (λ qs. p ∷ qs) (unfinished-none ps)

  pub running-finishes : (at : ℕ) (fs : List Finished) (rs : List (Running O))
      → fold running_with rs (map (finish_event at) fs) ≡ unfinished rs (map (λ (f : Finished). f.finish) fs)
  running-finishes at [] rs = sym (unfinished-none rs)
  running-finishes at (f ∷ fs) rs =
      running-finishes at fs (ended rs f.finish.reference)
      ∙ (ap (λ qs. unfinished qs (map (λ (f : Finished). f.finish) fs)) (one-unfinished rs f.finish)
      ∙ sym (unfinished-append rs (f.finish ∷ []) (map (λ (f : Finished). f.finish) fs)))

  -- another reference still runs
  pub runs-on : (rs : List (Running O)) (g r : Reference) → same_reference g r ≡ false → runs rs r ≡ true → runs (ended rs g) r ≡ true
  runs-on [] g r n h = h
  runs-on (p ∷ ps) g r n h = go (same_reference p.reference g) (same_reference p.reference r) refl refl h (runs-on ps g r n)
    where
      go : (a b : Bool) → same_reference p.reference g ≡ a → same_reference p.reference r ≡ b → (b || runs ps r) ≡ true → (runs ps r ≡ true → runs (ended ps g) r ≡ true)
          → runs (cond (not a) (p ∷ ended ps g) (ended ps g)) r ≡ true
      go true true e f k rest =
          let one : same_reference p.reference r ≡ same_reference g r = same_reference_equiv.congr p.reference g r e in
          absurd (false≢true (sym n ∙ (sym one ∙ f)))
      go true false e f k rest = rest k
      go false true e f k rest = ap (λ b. b || runs (ended ps g) r) f
      go false false e f k rest = ap (λ b. b || runs (ended ps g) r) f ∙ rest k

module _ {O : Type 0} (core : CoreWorld O) where
  pub replies-finishes : (at : ℕ) (rs : List (Running O)) (fins : List Finish) (fs : List Finished) (named : List Reference) (n : ℕ) (before : List (CoreEvent O))
      → map (λ (f : Finished). f.finish) fs ≡ fins → refused_finish rs named n fins ≡ None
      → ((r : Reference) → runs rs r ≡ true → list_any (λ q. same_reference q r) named ≡ false → runs (running_of before) r ≡ true)
      → AreReplies core before (map (finish_event at) fs)
  replies-finishes at rs fins [] named n before z v h = tt
  replies-finishes at rs [] (g ∷ fs) named n before z v h = absurd (cc)
  replies-finishes at rs (f ∷ fins) (g ∷ fs) named n before z v h =
      let here : g.finish ≡ f = cc in
      let rest : map (λ (f : Finished). f.finish) fs ≡ fins = cc in
      one f fins g fs n here (runs rs f.reference) (list_any (λ r. same_reference r f.reference) named) refl refl v
      (λ u. replies-finishes at rs fins fs (f.reference ∷ named) (n + 1) (before ++ finish_event at g ∷ []) rest u (next f g here))
    where
      after : (f : Finish) (g : Finished) → g.finish ≡ f → running_of (before ++ finish_event at g ∷ []) ≡ ended (running_of before) f.reference
      after f g e = running-append before (finish_event at g ∷ []) ∙ ap (λ (x : Finish). ended (running_of before) x.reference) e

      next : (f : Finish) (g : Finished) → g.finish ≡ f → (r : Reference) → runs rs r ≡ true → (same_reference f.reference r || list_any (λ q. same_reference q r) named) ≡ false
          → runs (running_of (before ++ finish_event at g ∷ [])) r ≡ true
      next f g e r a b =
          ap (λ qs. runs qs r) (after f g e)
          ∙ runs-on (running_of before) f.reference r (or-left (same_reference f.reference r) (list_any (λ q. same_reference q r) named) b)
          (h r a (or-right (same_reference f.reference r) (list_any (λ q. same_reference q r) named) b))

      one : (f : Finish) (fins : List Finish) (g : Finished) (fs : List Finished) (n : ℕ) → g.finish ≡ f → (a b : Bool) → runs rs f.reference ≡ a → list_any (λ r. same_reference r f.reference) named ≡ b
          → (if not a then Some (NotRunning n) else if b then Some (Twice n) else refused_finish rs (f.reference ∷ named) (n + 1) fins) ≡ None
          → (refused_finish rs (f.reference ∷ named) (n + 1) fins ≡ None → AreReplies core (before ++ finish_event at g ∷ []) (map (finish_event at) fs))
          → AreReplies core before (map (finish_event at) (g ∷ fs))
      one f fins g fs n is false b e k u rest = absurd (cc)
      one f fins g fs n is true true e k u rest = absurd (cc)
      one f fins g fs n is true false e k u rest = (sym (subst (λ (x : Finish). runs (running_of before) x.reference ≡ true) (sym is) (h f.reference e k)), rest u)
