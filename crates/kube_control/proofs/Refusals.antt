-- Traces of the first turns, before one that is refused or broken off.
use Rattle.std.proofs.Common.{◌≡◌, ℕ, zero, suc, ◌+◌, ◌<◌, Bool, true, false, ◌||◌, List, [], ◌∷◌, ◌++◌, take, length, slice_get, get_or, unwrap_or, Option, Some, None, refl, sym, ap, subst, ◌∙◌, append_assoc, append-nil, arith}
use Rattle.std.specs.Option.{option_map_or}
use Rattle.std.proofs.lemmas.List.Folds.{list_any-append}
use Rattle.kube_model.specs.World.{World}
use Rattle.kube_model.specs.History.{Turn, Step}
use Rattle.kube_model.specs.Traces.{AreValid, IsRefusedAfter, IsTrace, Made, Refusal, has_ended, last_moment, refusal, step, steps}
use Rattle.kube_model.proofs.Lasts.{last-push}

module _ {O B : Type 0} (w : World O B) where
  -- turns that have a trace are valid
  pub trace-valid : (p : ℕ → ℕ → O → Option ℕ) (h : List (Step O)) (ts : List Turn) (ms : List (Made O)) → IsTrace w p h ts ms → AreValid h ts ms
  trace-valid p h [] ms k = tt
  trace-valid p h (t ∷ ts) [] k = λ going. absurd (let z : true ≡ false = sym k ∙ going in cc)
  trace-valid p h (t ∷ ts) (m ∷ ms) k = (k.1.valid, trace-valid (λ n. p (n + 1)) (h ++ step t m ∷ []) ts ms k.2)

  -- and such of which one is refused are not
  pub refused-invalid : (p : ℕ → ℕ → O → Option ℕ) (h : List (Step O)) (ts : List Turn) (ms : List (Made O)) (why : Refusal) → IsRefusedAfter w p h ts ms why → AreValid h ts ms → ⊥
  refused-invalid p h [] ms why k v = k
  refused-invalid p h (t ∷ ts) [] why k v = let z : None ≡ Some why = sym (v k.0) ∙ k.1 in cc
  refused-invalid p h (t ∷ ts) (m ∷ ms) why k v = refused-invalid (λ n. p (n + 1)) (h ++ step t m ∷ []) ts ms why k.2 v.1

  pub refused-after : (p : ℕ → ℕ → O → Option ℕ) (h : List (Step O)) (ts us : List Turn) (t : Turn) (ms : List (Made O)) (why : Refusal) → length ts ≡ length ms → IsTrace w p h ts ms
      → has_ended (h ++ steps ts ms) ≡ false → refusal (h ++ steps ts ms) t ≡ Some why → IsRefusedAfter w p h (ts ++ t ∷ us) ms why
  refused-after p h [] us t [] why e k going r = (subst (λ g. has_ended g ≡ false) (append-nil h) going, subst (λ g. refusal g t ≡ Some why) (append-nil h) r)
  refused-after p h [] us t (m ∷ ms) why e k going r = absurd (omega (arith, e))
  refused-after p h (u ∷ ts) us t [] why e k going r = absurd (omega (arith, e))
  refused-after p h (u ∷ ts) us t (m ∷ ms) why e k going r = (
    k.0,
    k.1,
    refused-after (λ n. p (n + 1)) (h ++ step u m ∷ []) ts us t ms why (omega (arith, e)) k.2 (subst (λ g. has_ended g ≡ false) (sym (append_assoc h (step u m ∷ []) (steps ts ms))) going)
        (subst (λ g. refusal g t ≡ Some why) (sym (append_assoc h (step u m ∷ []) (steps ts ms))) r),
  )

-- the moment and the end of one more turn
pub moment-push : {O : Type 0} (h : List (Step O)) (t : Turn) (m : Made O) → last_moment (h ++ step t m ∷ []) ≡ t.at
moment-push {O} h t m = ap (λ o. option_map_or (λ (s : Step O). s.turn.at) o 0) (last-push h (step t m))

pub ended-push : {O : Type 0} (h : List (Step O)) (t : Turn) (m : Made O) → has_ended h ≡ false → m.0.ended ≡ has_ended (h ++ step t m ∷ [])
ended-push h t m e = go m.0.ended ∙ sym (list_any-append (λ s. s.made.ended) h (step t m ∷ []) ∙ ap (λ b. b || (m.0.ended || false)) e)
  where
    go : (b : Bool) → b ≡ (b || false)
    go true = refl
    go false = refl

-- the item after a front
pub get-after : {A : Type 0} (xs : List A) (n : ℕ) (x : A) → n < length xs → x ≡ get_or xs n x → slice_get xs n ≡ Some x
get-after [] n x l e = absurd (omega (arith, l))
get-after (y ∷ xs) zero x l e = ap Some (sym e)
get-after (y ∷ xs) (suc n) x l e = get-after xs n x (omega (arith, l)) e

pub split-after : {A : Type 0} (xs : List A) (n : ℕ) (x : A) → slice_get xs n ≡ Some x → (rest : List A) × (xs ≡ take n xs ++ x ∷ rest)
split-after [] n x e = absurd (cc)
split-after (y ∷ xs) zero x e = (xs, ap (λ o. unwrap_or o y ∷ xs) e)
split-after (y ∷ xs) (suc n) x e = let r = split-after xs n x e in (r.0, ap (λ zs. y ∷ zs) r.1)
