-- The first message that passes.
use Rattle.std.proofs.Common.{ℕ, zero, suc, ◌<◌, Bool, true, false, List, [], ◌∷◌, length, take, get_or, Some, None, arith}
use Rattle.std.specs.List.{AllByRecursion}
use Rattle.kube_sched.specs.declared.held.Held.{Held}
use Rattle.kube_sched.specs.Held.{IsFirstAt, messages}

-- none passes before this place
abbrev pub NoneBefore : {M : Type 0} → (M → Bool → Type 0) → ℕ → List (Held M) → Type 0
NoneBefore passes place hs = AllByRecursion (λ h. passes h.message false) (take place hs)

pub first-here : {M : Type 0} (passes : M → Bool → Type 0) (hs : List (Held M)) (place : ℕ) (d : Held M) → place < length hs
    → NoneBefore passes place hs → passes (get_or hs place d).message true → IsFirstAt passes (messages hs) (Some place)
first-here passes [] place d l h p = absurd (omega arith)
first-here passes (x ∷ hs) zero d l h p = p
first-here passes (x ∷ hs) (suc place) d l h p = (h.0, first-here passes hs place d (omega arith) h.1 p)

pub first-nowhere : {M : Type 0} (passes : M → Bool → Type 0) (hs : List (Held M))
    → AllByRecursion (λ h. passes h.message false) hs → IsFirstAt passes (messages hs) None
first-nowhere passes [] h = tt
first-nowhere passes (x ∷ hs) h = (h.0, first-nowhere passes hs h.1)
