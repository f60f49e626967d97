-- Steps that are pushed one after another, and numbers after one another.
use Rattle.std.proofs.Common.{◌≡◌, ℕ, zero, suc, ◌+◌, List, [], ◌∷◌, ◌++◌, map, refl, sym, ◌∙◌, ap, arith}
use Rattle.std.specs.Prelude.{flat_map}
use Rattle.std.specs.List.{range_with_len}
use Rattle.std.proofs.lemmas.List.{append_assoc, append-nil, map-append}
use Rattle.std.proofs.lemmas.List.Concat.{flat_map-append}
use Rattle.kube_api.specs.declared.sequence.SequenceStep.{SequenceStep}
use Rattle.kube_api.specs.declared.sequence.SequenceStep.TheVariants.{List as ListStep, Wait}
use Rattle.kube_api.specs.Sequences.{given_step, steps_of}
use Rattle.kube_api.specs.TestScript.{Step, Pauses}

module _ {K : Type 0} where
  pub steps-append : (xs ys : List (SequenceStep K)) → steps_of (xs ++ ys) ≡ steps_of xs ++ steps_of ys
  steps-append [] ys = refl
  steps-append (ListStep events ∷ xs) ys =
      ap (λ q. map given_step events.items ++ q) (steps-append xs ys) ∙ sym (append_assoc (map given_step events.items) (steps_of xs) (steps_of ys))
  steps-append (Wait nanos ∷ xs) ys = ap (λ q. Pauses nanos ∷ q) (steps-append xs ys)

  -- two more steps, each of which is one
  pub pushed-both : (old mid new : List (SequenceStep K)) (a b : SequenceStep K) (s t : Step K) → mid ≡ old ++ a ∷ [] → new ≡ mid ++ b ∷ []
      → steps_of (a ∷ []) ≡ s ∷ [] → steps_of (b ∷ []) ≡ t ∷ [] → steps_of new ≡ steps_of old ++ s ∷ t ∷ []
  pushed-both old mid new a b s t p q e f =
      ap steps_of (q ∙ ap (λ zs. zs ++ b ∷ []) p)
      ∙ (steps-append (old ++ a ∷ []) (b ∷ [])
      ∙ (ap (λ zs. zs ++ steps_of (b ∷ [])) (steps-append old (a ∷ []) ∙ ap (λ zs. steps_of old ++ zs) e)
      ∙ (ap (λ zs. (steps_of old ++ s ∷ []) ++ zs) f ∙ append_assoc (steps_of old) (s ∷ []) (t ∷ []))))

-- one number more
range-suc : (a n k : ℕ) → a + n ≡ k → range_with_len a (suc n) ≡ range_with_len a n ++ k ∷ []
range-suc a zero k e = ap (λ j. j ∷ []) (omega (arith, e))
range-suc a (suc n) k e = ap (λ q. a ∷ q) (range-suc (a + 1) n k (omega (arith, e)))

pub range-more : (a n m k : ℕ) → m ≡ suc n → a + n ≡ k → range_with_len a m ≡ range_with_len a n ++ k ∷ []
range-more a n m k e f = ap (range_with_len a) e ∙ range-suc a n k f

-- one item more, as one number more
pub mapped-more : {X Y : Type 0} (f : ℕ → Y) (g : X → Y) (xs new : List X) (x : X) (a n m k : ℕ) → new ≡ xs ++ x ∷ [] → map g xs ≡ map f (range_with_len a n)
    → m ≡ suc n → a + n ≡ k → g x ≡ f k → map g new ≡ map f (range_with_len a m)
mapped-more f g xs new x a n m k p e i j s =
    ap (map g) p
    ∙ (map-append g xs (x ∷ [])
    ∙ (ap (λ ys. ys ++ g x ∷ []) e
    ∙ (ap (λ y. map f (range_with_len a n) ++ y ∷ []) s
    ∙ sym (ap (map f) (range-more a n m k i j) ∙ map-append f (range_with_len a n) (k ∷ [])))))

pub flat-more : {Y : Type 0} (f : ℕ → List Y) (ys new : List Y) (a n m k : ℕ) → new ≡ ys ++ f k → ys ≡ flat_map f (range_with_len a n) → m ≡ suc n → a + n ≡ k
    → new ≡ flat_map f (range_with_len a m)
flat-more f ys new a n m k p e i j =
    p
    ∙ (ap (λ zs. zs ++ f k) e
    ∙ sym (ap (flat_map f) (range-more a n m k i j) ∙ (flat_map-append f (range_with_len a n) (k ∷ []) ∙ ap (λ zs. flat_map f (range_with_len a n) ++ zs) (append-nil (f k)))))
