-- The finishes of a valid turn, one after another: each finds its reference running.
use Rattle.std.proofs.Common.{◌≡◌, ℕ, ◌+◌, ◌^◌, nat_le, nat_lt, Bool, true, false, not, cond, ◌||◌, List, [], ◌∷◌, ◌++◌, Some, None, if◌then◌else◌, refl, ap, subst, ◌∙◌}
use Rattle.std.specs.List.{list_any}
use Rattle.kube_meta.specs.Reference.{Reference, same_reference}
use Rattle.kube_model.specs.History.{Finish, Turn, Step}
use Rattle.kube_model.specs.Takes.{Running, running, runs, unfinished, is_finished}
use Rattle.kube_model.specs.Traces.{Moment, NotRunning, Twice, refused_finish, last_moment, IsValid}
use Rattle.kube_model.proofs.Alls.{or-left, or-right}
use Rattle.kube_model.proofs.Stores as stores

finished-alike : (fs : List Finish) (r s : Reference) → same_reference r s ≡ true → is_finished fs r ≡ is_finished fs s
finished-alike [] r s h = refl
finished-alike (f ∷ fs) r s h = ap (λ b. b || is_finished fs r) (stores.alike r s f.reference h) ∙ ap (λ b. same_reference f.reference s || b) (finished-alike fs r s h)

module _ {O : Type 0} where
  -- what these don't finish still runs
  still-runs : (rs : List (Running O)) (fs : List Finish) (r : Reference) → is_finished fs r ≡ false → runs rs r ≡ true → runs (unfinished rs fs) r ≡ true
  still-runs [] fs r n h = h
  still-runs (p ∷ ps) fs r n h = go (same_reference p.reference r) refl h (still-runs ps fs r n)
    where
      keep : (b : Bool) → runs (unfinished ps fs) r ≡ true → runs (cond b (p ∷ unfinished ps fs) (unfinished ps fs)) r ≡ true
      keep true e = ap (λ b. same_reference p.reference r || b) e ∙ or-last (same_reference p.reference r)
        where
          or-last : (b : Bool) → (b || true) ≡ true
          or-last true = refl
          or-last false = refl
      keep false e = e

      go : (b : Bool) → same_reference p.reference r ≡ b → (b || runs ps r) ≡ true → (runs ps r ≡ true → runs (unfinished ps fs) r ≡ true) → runs (unfinished (p ∷ ps) fs) r ≡ true
      go true e k rest =
          ap (λ b. runs (cond (not b) (p ∷ unfinished ps fs) (unfinished ps fs)) r) (finished-alike fs p.reference r e ∙ n) ∙ ap (λ b. b || runs (unfinished ps fs) r) e
      go false e k rest = keep (not (is_finished fs p.reference)) (rest k)

  -- the first finish that is refused is none: each ran, and wasn't named before
  each-ran : (rs : List (Running O)) (named : List Reference) (n : ℕ) (front : List Finish) (f : Finish) (rest : List Finish) → refused_finish rs named n (front ++ f ∷ rest) ≡ None
      → (runs rs f.reference ≡ true) × (list_any (λ q. same_reference q f.reference) named ≡ false) × (is_finished front f.reference ≡ false)
  each-ran rs named n [] f rest v = go (runs rs f.reference) (list_any (λ q. same_reference q f.reference) named) refl refl v
    where
      go : (a b : Bool) → runs rs f.reference ≡ a → list_any (λ q. same_reference q f.reference) named ≡ b
          → (if not a then Some (NotRunning n) else if b then Some (Twice n) else refused_finish rs (f.reference ∷ named) (n + 1) rest) ≡ None
          → (a ≡ true) × (b ≡ false) × (false ≡ false)
      go false b e k u = absurd (cc)
      go true true e k u = absurd (cc)
      go true false e k u = (refl, refl, refl)
  each-ran rs named n (g ∷ front) f rest v =
      go (runs rs g.reference) (list_any (λ q. same_reference q g.reference) named) v (λ u. each-ran rs (g.reference ∷ named) (n + 1) front f rest u)
    where
      all : Type 0
      all = (runs rs f.reference ≡ true) × (list_any (λ q. same_reference q f.reference) named ≡ false) × ((same_reference g.reference f.reference || is_finished front f.reference) ≡ false)

      go : (a b : Bool) → (if not a then Some (NotRunning n) else if b then Some (Twice n) else refused_finish rs (g.reference ∷ named) (n + 1) (front ++ f ∷ rest)) ≡ None
          → (refused_finish rs (g.reference ∷ named) (n + 1) (front ++ f ∷ rest) ≡ None
          → (runs rs f.reference ≡ true) × ((same_reference g.reference f.reference || list_any (λ q. same_reference q f.reference) named) ≡ false) × (is_finished front f.reference ≡ false))
          → all
      go false b u k = absurd (cc)
      go true true u k = absurd (cc)
      go true false u k =
          let r = k u in
          let apart = or-left (same_reference g.reference f.reference) (list_any (λ q. same_reference q f.reference) named) r.1 in
          (r.0, or-right (same_reference g.reference f.reference) (list_any (λ q. same_reference q f.reference) named) r.1, ap (λ b. b || is_finished front f.reference) apart ∙ r.2)

  none-refused : (h : List (Step O)) (t : Turn) → IsValid h t → refused_finish (running h) [] 0 t.finishes ≡ None
  none-refused h t v = go (nat_le (2 ^ 63) t.at || nat_lt t.at (last_moment h)) v
    where
      go : (b : Bool) → (if b then Some (Moment t.at (last_moment h)) else refused_finish (running h) [] 0 t.finishes) ≡ None → refused_finish (running h) [] 0 t.finishes ≡ None
      go true k = absurd (cc)
      go false k = k

  pub finds-running : (h : List (Step O)) (t : Turn) (front : List Finish) (f : Finish) (rest : List Finish) → IsValid h t → t.finishes ≡ front ++ f ∷ rest
      → runs (unfinished (running h) front) f.reference ≡ true
  finds-running h t front f rest v e =
      let r = each-ran (running h) [] 0 front f rest (subst (λ fs. refused_finish (running h) [] 0 fs ≡ None) e (none-refused h t v)) in
      still-runs (running h) front f.reference r.2 r.0
