-- What the whole history of a lock says of its passes. E is the type of entries, P that of what was opened.
use Rattle.std.specs.Prelude.{◌≡◌, ◌≤◌, ℕ, List, [], IfSome}
use mathlib.Core.List.{IsPrefix}
use Rattle.kube_lock.specs.declared.view.View.{View}
use Rattle.kube_lock.specs.Rule.{calls_of}
use Rattle.kube_lock.specs.Steps.{IsTold}
use Rattle.kube_lock.specs.Passes.{Passing}

module _ {E P : Type 0} (number : E → ℕ) where
  -- it begins with what the pass has seen, and its entries of the pass are the pass's own, each once and in their order
  pub record IsWhole (log : List E) (p : Passing E P) : Type 0 where
    pub seen : IsPrefix p.seen log
    pub own : calls_of number p.number log ≡ p.own

  -- where the pass keeps how many numbers were given, the history has no entries of others
  abbrev pub BoundsNumbers : List E → Passing E P → Type 0
  BoundsNumbers log p = IfSome p.given (λ given. (n : ℕ) → given ≤ n → calls_of number n log ≡ [])

  -- each history that tells of this view is so for the pass
  abbrev pub Covers : (P → List E → Type 0) → View E P → Passing E P → Type 0
  Covers Legal v p = (log : List E) → IsTold number Legal v log → IsWhole log p × BoundsNumbers log p
