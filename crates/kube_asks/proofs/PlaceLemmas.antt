-- What one place of a list becomes.
use Rattle.std.proofs.Common.{◌≡◌, ◌≢◌, ℕ, zero, suc, ◌<◌, List, [], ◌∷◌, length, map, slice_set, slice_get, unwrap_or, Option, None, get_or, refl, sym, ap, subst, ◌∙◌, arith}
use mathlib.Core.HLevel.{is_prop→PathP}
use native.Mathlib.Nat.{ℕ_set}
use Rattle.std.specs.List.{AllByRecursion}
use Rattle.std.specs.Global.{Vec}
use Rattle.std.specs.Vec.{with_item}
use Rattle.std.proofs.lemmas.List.{length-set}
use Rattle.kube_model.specs.World.{Settings}
use Rattle.kube_asks.specs.Places.{HoldsAt, ChangesAt}
use Rattle.kube_asks.specs.Sources.{fed, feed_at}

module _ {T : Type 0} where
  pub holds-get : (P : T → Type 0) (ts : List T) (place : ℕ) (u : T) → place < length ts → u ≡ get_or ts place u → HoldsAt P ts place → P u
  holds-get P [] place u l e h = absurd (omega arith)
  holds-get P (t ∷ ts) zero u l e h = subst P (sym e) h
  holds-get P (t ∷ ts) (suc place) u l e h = holds-get P ts place u (omega arith) e h

  pub holds-set : (P : T → Type 0) (ts : List T) (place : ℕ) (t : T) → place < length ts → P t → HoldsAt P (slice_set ts place t) place
  holds-set P [] place t l h = absurd (omega arith)
  holds-set P (u ∷ ts) zero t l h = h
  holds-set P (u ∷ ts) (suc place) t l h = holds-set P ts place t (omega arith) h

  pub holds-other : (P : T → Type 0) (ts : List T) (place p : ℕ) (t : T) → p ≢ place → HoldsAt P ts p → HoldsAt P (slice_set ts place t) p
  holds-other P [] zero p t n h = tt
  holds-other P [] (suc place) p t n h = tt
  holds-other P (u ∷ ts) zero zero t n h = absurd (n refl)
  holds-other P (u ∷ ts) zero (suc p) t n h = h
  holds-other P (u ∷ ts) (suc place) zero t n h = h
  holds-other P (u ∷ ts) (suc place) (suc p) t n h = holds-other P ts place p t (λ e. n (ap suc e)) h

  pub all-get : (P : T → Type 0) (ts : List T) (place : ℕ) (u : T) → place < length ts → u ≡ get_or ts place u → AllByRecursion P ts → P u
  all-get P [] place u l e h = absurd (omega arith)
  all-get P (t ∷ ts) zero u l e h = subst P (sym e) h.0
  all-get P (t ∷ ts) (suc place) u l e h = all-get P ts place u (omega arith) e h.1

  pub all-set : (P : T → Type 0) (ts : List T) (place : ℕ) (t : T) → P t → AllByRecursion P ts → AllByRecursion P (slice_set ts place t)
  all-set P [] zero t k h = tt
  all-set P [] (suc place) t k h = tt
  all-set P (u ∷ ts) zero t k h = (k, h.1)
  all-set P (u ∷ ts) (suc place) t k h = (h.0, all-set P ts place t k h.1)

  pub map-set : {A : Type 0} (f : T → A) (ts : List T) (place : ℕ) (t u : T) → place < length ts → u ≡ get_or ts place u → f t ≡ f u → map f (slice_set ts place t) ≡ map f ts
  map-set f [] place t u l e k = absurd (omega arith)
  map-set f (v ∷ ts) zero t u l e k = ap (λ a. a ∷ map f ts) (k ∙ ap f e)
  map-set f (v ∷ ts) (suc place) t u l e k = ap (λ r. f v ∷ r) (map-set f ts place t u (omega arith) e k)

  pub changes-set : (R : T → T → Type 0) (ts : List T) (place : ℕ) (t u : T) → place < length ts → u ≡ get_or ts place u → R u t → ChangesAt R place ts (slice_set ts place t)
  changes-set R [] place t u l e k = absurd (omega arith)
  changes-set R (v ∷ ts) zero t u l e k = (subst (λ z. R z t) e k, refl)
  changes-set R (v ∷ ts) (suc place) t u l e k = (refl, changes-set R ts place t u (omega arith) e k)

  pub feed-get : (settings : T → Option Settings) (ts : List T) (place : ℕ) (u : T) → place < length ts → u ≡ get_or ts place u → feed_at (map settings ts) place ≡ fed (settings u)
  feed-get settings [] place u l e = absurd (omega arith)
  feed-get settings (t ∷ ts) zero u l e = ap (λ z. fed (settings z)) (sym e)
  feed-get settings (t ∷ ts) (suc place) u l e = feed-get settings ts place u (omega arith) e

  pub set-same : (ts : List T) (place : ℕ) (t u : T) → u ≡ get_or ts place u → t ≡ u → slice_set ts place t ≡ ts
  set-same [] place t u e k = refl
  set-same (v ∷ ts) zero t u e k = ap (λ z. z ∷ ts) (k ∙ e)
  set-same (v ∷ ts) (suc place) t u e k = ap (λ r. v ∷ r) (set-same ts place t u e k)

  -- a vector whose elements stay is the same
  pub item-same : (v : Vec T) (place : ℕ) (t : T) → slice_set v.items place t ≡ v.items → with_item v place t ≡ v
  item-same v place t e = λ j. record {
    ptr = v.ptr;
    len = v.len;
    cap = v.cap;
    alloc = v.alloc;
    items = e j;
    ok = (is_prop→PathP (λ k. v.len ≡ length (e k)) (λ k. ℕ_set v.len (length (e k))) (v.ok.0 ∙ sym (length-set v.items place t)) v.ok.0 j, v.ok.1);
    small = v.small;
  }

  -- what is told of the element at a place, or nothing where there is none
  module _ {A : Type 0} (told : T → Option A) where
    pub told-get : (ts : List T) (place : ℕ) (u : T) → place < length ts → u ≡ get_or ts place u → unwrap_or (slice_get (map told ts) place) None ≡ told u
    told-get [] place u l e = absurd (omega arith)
    told-get (t ∷ ts) zero u l e = ap told (sym e)
    told-get (t ∷ ts) (suc place) u l e = told-get ts place u (omega arith) e

    pub told-set : (ts : List T) (place : ℕ) (t : T) → place < length ts → unwrap_or (slice_get (map told (slice_set ts place t)) place) None ≡ told t
    told-set [] place t l = absurd (omega arith)
    told-set (u ∷ ts) zero t l = refl
    told-set (u ∷ ts) (suc place) t l = told-set ts place t (omega arith)

    pub told-other : (ts : List T) (place p : ℕ) (t : T) → p ≢ place
        → unwrap_or (slice_get (map told (slice_set ts place t)) p) None ≡ unwrap_or (slice_get (map told ts) p) None
    told-other [] place p t n = refl
    told-other (u ∷ ts) zero zero t n = absurd (n refl)
    told-other (u ∷ ts) zero (suc p) t n = refl
    told-other (u ∷ ts) (suc place) zero t n = refl
    told-other (u ∷ ts) (suc place) (suc p) t n = told-other ts place p t (λ e. n (ap suc e))
