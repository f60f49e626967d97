-- Finishes, with what was answered for them.
use Rattle.std.proofs.Common.{◌≡◌, ℕ, suc, ◌+◌, Bool, true, false, not, ◌||◌, cond, List, [], ◌∷◌, Option, Some, None, option_map, if◌then◌else◌, refl, sym, ap, ap₂, subst, ◌∙◌, arith}
use Rattle.std.specs.List.{find, list_any, AllZip, AllByRecursion}
use Rattle.kube_meta.specs.Reference.{Reference, same_reference}
use Rattle.kube_meta.specs.ReferenceLaws.{same_reference_equiv}
use Rattle.kube_model.specs.History.{Finish, Finished, Outcome, Succeeded, Failed}
use Rattle.kube_model.specs.Takes.{Running, runs, is_finished, unfinished}
use Rattle.kube_model.specs.Traces.{NotRunning, Twice, refused_finish, handed_over, IsActionOf, AreFinishesOf}
use Rattle.kube_step.specs.Policies.{answered_in}

-- what was answered for the finishes after the first
later-in : {O : Type 0} (g : Finished) (gs : List Finished) → (λ n. answered_in {O = O} (g ∷ gs) (n + 1)) ≡ answered_in gs
later-in {O} g gs = λ i n. answered_in {O = O} (g ∷ gs) (next n i)
  where
    next : (n : ℕ) → n + 1 ≡ suc n
    next n = omega arith

-- an outcome's own action is the one taken
abbrev pub TakesOwn : Outcome → Option ℕ → Type 0
TakesOwn (Succeeded own) action = action ≡ own
TakesOwn Failed action = Unit {0}

pub record IsEndOf (f : Finish) (g : Finished) : Type 0 where
  pub finish : g.finish ≡ f
  pub own : TakesOwn f.outcome g.action

alike : (fs : List Finish) (q r : Reference) → same_reference q r ≡ true → is_finished fs q ≡ is_finished fs r
alike [] q r e = refl
alike (f ∷ fs) q r e = ap₂ (λ a b. a || b) (same_reference_equiv.symm f.reference q ∙ (same_reference_equiv.congr q r f.reference e ∙ same_reference_equiv.symm r f.reference)) (alike fs q r e)

none-runs : {O : Type 0} (qs : List (Running O)) (fs : List Finish) (r : Reference) → is_finished fs r ≡ true → runs (unfinished qs fs) r ≡ true → false ≡ true
none-runs [] fs r f k = k
none-runs {O} (q ∷ qs) fs r f k = one (is_finished fs q.reference) (same_reference q.reference r) refl refl k (none-runs qs fs r f)
  where
    one : (a b : Bool) → is_finished fs q.reference ≡ a → same_reference q.reference r ≡ b → runs (cond (not a) (q ∷ unfinished qs fs) (unfinished qs fs)) r ≡ true → (runs (unfinished qs fs) r ≡ true → false ≡ true) → false ≡ true
    one true b m n j rest = rest j
    one false true m n j rest = sym m ∙ (alike fs q.reference r n ∙ f)
    one false false m n j rest = rest (ap (λ c. c || runs (unfinished qs fs) r) (sym n) ∙ j)

module _ {O : Type 0} where
  taken-for : (rs : List (Running O)) (r : Reference) (gs : List Finished) (g : Finished) (o : Outcome) → runs rs r ≡ true → TakesOwn o g.action → IsActionOf (answered_in (g ∷ gs) 0) (handed_over rs r) o g.action
  taken-for rs r gs g (Succeeded own) u e = e
  taken-for [] r gs g Failed u e = absurd (cc)
  taken-for (p ∷ ps) r gs g Failed u e = go (same_reference p.reference r) u (λ k. taken-for ps r gs g Failed k tt)
    where
      go : (b : Bool) → (b || runs ps r) ≡ true → (runs ps r ≡ true → IsActionOf (answered_in (g ∷ gs) 0) (handed_over ps r) Failed g.action)
          → IsActionOf (answered_in (g ∷ gs) 0) (option_map (λ q. q.object) (cond b (Some p) (find (λ q. same_reference q.reference r) ps))) Failed g.action
      go true k rest = refl
      go false k rest = rest k

  pub finishes-told : (rs : List (Running O)) (fins : List Finish) (gs : List Finished) → AllZip IsEndOf fins gs → AllByRecursion (λ f. runs rs f.reference ≡ true) fins → AreFinishesOf (answered_in gs) rs fins gs
  finishes-told rs [] [] z u = refl
  finishes-told rs [] (g ∷ gs) z u = absurd z
  finishes-told rs (f ∷ fins) [] z u = absurd z
  finishes-told rs (f ∷ fins) (g ∷ gs) z u = (
    record { finish = z.0.finish; action = taken-for rs f.reference gs g f.outcome u.0 z.0.own },
    subst (λ p. AreFinishesOf p rs fins gs) (sym (later-in g gs)) (finishes-told rs fins gs z.1 u.1),
  )

  -- none is refused, so each ran
  pub all-ran : (rs : List (Running O)) (named : List Reference) (n : ℕ) (fins : List Finish) → refused_finish rs named n fins ≡ None → AllByRecursion (λ f. runs rs f.reference ≡ true) fins
  all-ran rs named n [] v = tt
  all-ran rs named n (f ∷ fins) v = go (runs rs f.reference) (list_any (λ r. same_reference r f.reference) named) refl v (all-ran rs (f.reference ∷ named) (n + 1) fins)
    where
      go : (a b : Bool) → runs rs f.reference ≡ a → (if not a then Some (NotRunning n) else if b then Some (Twice n) else refused_finish rs (f.reference ∷ named) (n + 1) fins) ≡ None
          → (refused_finish rs (f.reference ∷ named) (n + 1) fins ≡ None → AllByRecursion (λ g. runs rs g.reference ≡ true) fins)
          → (runs rs f.reference ≡ true) × AllByRecursion (λ g. runs rs g.reference ≡ true) fins
      go false b e k rest = absurd (cc)
      go true true e k rest = absurd (cc)
      go true false e k rest = (e, rest k)

  -- what was handed over with a reference that still runs is what was handed over before these finishes
  pub handed-still : (rs : List (Running O)) (fs : List Finish) (r : Reference) → runs (unfinished rs fs) r ≡ true → handed_over (unfinished rs fs) r ≡ handed_over rs r
  handed-still [] fs r u = refl
  handed-still (p ∷ ps) fs r u = go (is_finished fs p.reference) (same_reference p.reference r) refl refl u (handed-still ps fs r)
    where
      go : (a b : Bool) → is_finished fs p.reference ≡ a → same_reference p.reference r ≡ b → runs (cond (not a) (p ∷ unfinished ps fs) (unfinished ps fs)) r ≡ true
          → (runs (unfinished ps fs) r ≡ true → handed_over (unfinished ps fs) r ≡ handed_over ps r)
          → handed_over (cond (not a) (p ∷ unfinished ps fs) (unfinished ps fs)) r ≡ option_map (λ q. q.object) (cond b (Some p) (find (λ q. same_reference q.reference r) ps))
      go true true m n k rest = absurd (let z = none-runs ps fs r (sym (alike fs p.reference r n) ∙ m) k in cc)
      go true false m n k rest = rest k
      go false true m n k rest = ap (λ c. option_map (λ (q : Running O). q.object) (cond c (Some p) (find (λ q. same_reference q.reference r) (unfinished ps fs)))) n
      go false false m n k rest =
          ap (λ c. option_map (λ (q : Running O). q.object) (cond c (Some p) (find (λ q. same_reference q.reference r) (unfinished ps fs)))) n
          ∙ rest (ap (λ c. c || runs (unfinished ps fs) r) (sym n) ∙ k)
