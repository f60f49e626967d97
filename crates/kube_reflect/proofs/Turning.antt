-- Steps on the two copies keep their rule.
use Rattle.std.proofs.Common.{◌≡◌, ◌≢◌, ℕ, List, [], ◌∷◌, ◌++◌, set, refl, sym, subst, ◌∙◌, ⊎_elim}
use Rattle.std.specs.Prelude.{Option, Some, None}
use mathlib.Core.Option.{some}
use lib.ListN.{get_elem?}
use Rattle.left_right.specs.Register.{TurnsAt, Admits, Forks, Merges}
use Rattle.atomic_table.proofs.Lists.{at_set, at_snoc}
use Rattle.kube_meta.specs.declared.metadata.ObjectMeta.{ObjectMeta}
use Rattle.kube_meta.specs.Reference.{ObjectType}
use Rattle.kube_reflect.specs.declared.copies.copied.Copied.{Copied}
use Rattle.kube_reflect.specs.declared.copies.mark.Origin.{Origin}
use Rattle.kube_reflect.specs.declared.copies.rule.View.{View}
use Rattle.kube_reflect.specs.Ties.{Home, Fits, IsTied, home_at}
use Rattle.kube_reflect.specs.Ruled.{IsTrue, AllKept, Saw}

module _ {K D : Type 0} where
  fits_same : (o : Option (Origin K D)) (h h' : Home D) → h ≡ h' → Fits o h → Fits o h'
  fits_same o h h' same f = subst (λ c. Fits o c) same f

  -- the list of a copy, as a writer's
  abbrev pub origin_at : Copied K D → Origin K D
  origin_at y = record { dyntype = y.dyntype; mark = y.mark }

  abbrev pub newcomer : View K D
  newcomer = record { at = None }

  -- a place that knows the same
  view_same : (w u : View K D) (h : Home D) → w ≡ u → Fits w.at h → Fits u.at h
  view_same w u h e f = subst (λ (z : View K D). Fits z.at h) e f

  -- what a tied place knows is its writer
  pub tied_is : (o : Option (Origin K D)) (h h' : Home D) → IsTied o h → Fits o h' → h' ≡ h
  tied_is None h h' tied fits = absurd tied
  tied_is (Some s) h h' tied fits = sym fits ∙ tied

module _ {K D : Type 0} (type_of : D → ObjectType) (meta : K → ObjectMeta) where
  -- a step to a copy that is true and of the same writer
  pub turns : (seat : ℕ) (v : View K D) (x y : Copied K D) → home_at x ≡ home_at y → (IsTrue type_of meta x → IsTrue type_of meta y)
      → TurnsAt (AllKept type_of meta) seat v x y (Saw type_of meta)
  turns seat v x y home true views h at =
      let w : View K D = record { at = Some (origin_at y) } in (
        w,
        (
          true h.0,
          λ j u e. ⊎_elim
              (λ (t : (j ≡ seat) × (w ≡ u)). view_same w u (home_at y) t.1 refl)
              (λ (t : (j ≢ seat) × (get_elem? views j ≡ some u)). fits_same u.at (home_at x) (home_at y) home (h.1 j u t.1))
              (at_set views seat j w u e),
        ),
        (true h.0, fits_same v.at (home_at x) (home_at y) home (h.1 seat v at), refl),
      )

  with_one : (x : Copied K D) (views : List (View K D)) (w : View K D) → Fits w.at (home_at x) → AllKept type_of meta x views → AllKept type_of meta x (views ++ w ∷ [])
  with_one x views w b h = (h.0, λ j u e. ⊎_elim (h.1 j u) (λ (t : w ≡ u). view_same w u (home_at x) t b) (at_snoc views w u j e))

  set_one : (x : Copied K D) (views : List (View K D)) (seat : ℕ) (w : View K D) → Fits w.at (home_at x) → AllKept type_of meta x views → AllKept type_of meta x (set views seat w)
  set_one x views seat w b h = (
    h.0,
    λ j u e. ⊎_elim (λ (t : (j ≡ seat) × (w ≡ u)). view_same w u (home_at x) t.1 b) (λ (t : (j ≢ seat) × (get_elem? views j ≡ some u)). h.1 j u t.1)
        (at_set views seat j w u e),
  )

  pub admits : Admits (AllKept type_of meta) newcomer
  admits x views h = with_one x views newcomer tt h

  pub forks : (seat : ℕ) (v : View K D) → Forks (AllKept type_of meta) seat v v v
  forks seat v x views h at = with_one x (set views seat v) v (h.1 seat v at) (set_one x views seat v (h.1 seat v at) h)

  pub merges : (seat : ℕ) (v : View K D) (other : ℕ) (w : View K D) → Merges (AllKept type_of meta) seat v other w w newcomer
  merges seat v other w x views h at apart there =
      let b : Fits w.at (home_at x) =
      ⊎_elim (λ (t : (other ≡ seat) × (w ≡ w)). absurd (apart t.0)) (λ (t : (other ≢ seat) × (get_elem? views other ≡ some w)). h.1 other w t.1)
      (at_set views seat other w w there) in
      set_one x (set views seat w) other newcomer tt (set_one x views seat w b h)

  -- a rule for copies that nothing is known of
  pub alone : (x : Copied K D) → IsTrue type_of meta x → AllKept type_of meta x (newcomer ∷ [])
  alone x true = with_one x [] newcomer tt (true, λ j u e. absurd (cc e))
