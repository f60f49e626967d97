-- Marks of sources.
use Rattle.std.proofs.Common.{◌≡◌, ℕ, zero, suc, ◌+◌, ◌-◌, ◌<◌, ◌≤◌, Bool, true, false, List, [], ◌∷◌, ◌++◌, length, take, replicate, slice_set, refl, ap, subst, ◌∙◌, arith}
use Rattle.std.proofs.lemmas.List.{take_all}
use Rattle.kube_asks.specs.Kept.{with_mark}

pub mark-set : (marks : List Bool) (n : ℕ) → n < length marks → slice_set marks n true ≡ with_mark marks n
mark-set [] n h = absurd (omega arith)
mark-set (m ∷ ms) zero h = refl
mark-set (m ∷ ms) (suc n) h = ap (λ ys. m ∷ ys) (mark-set ms n (omega arith))

mark-first : (n : ℕ) → slice_set (replicate (suc n) false) n true ≡ with_mark [] n
mark-first zero = refl
mark-first (suc n) = ap (λ ys. false ∷ ys) (mark-first n)

mark-more : (marks : List Bool) (n k : ℕ) → length marks ≤ n → length marks + k ≡ suc n → slice_set (marks ++ replicate k false) n true ≡ with_mark marks n
mark-more [] n k h e =
    let is : suc n ≡ k = omega (arith, e) in
    subst (λ m. slice_set (replicate m false) n true ≡ with_mark [] n) is (mark-first n)
mark-more (m ∷ ms) zero k h e = absurd (omega arith)
mark-more (m ∷ ms) (suc n) k h e = ap (λ ys. m ∷ ys) (mark-more ms n k (omega arith) (omega (arith, e)))

-- marks that are not set come before one that is
pub mark-grown : (marks : List Bool) (count n : ℕ) → count ≡ length marks → count ≤ n → slice_set (take (n + 1) marks ++ replicate ((n + 1) - count) false) n true ≡ with_mark marks n
mark-grown marks count n is h =
    ap (λ ms. slice_set (ms ++ replicate ((n + 1) - count) false) n true) (take_all (n + 1) marks (omega (arith, is, h)))
    ∙ mark-more marks n ((n + 1) - count) (omega (arith, is, h)) (omega (arith, is, h))
