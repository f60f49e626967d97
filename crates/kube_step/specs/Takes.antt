-- What was taken. K is the type of objects, D that of their dynamic types.
use Rattle.std.specs.Prelude.{◌≡◌, ◌⊎◌, ◌++◌, ◌∷◌, [], ℕ, true, List, map, Some, is_some}
use Rattle.kube_meta.specs.Reference.{ObjectType}
use Rattle.kube_model.specs.History.{Taken}
use Rattle.kube_history.specs.CoreEvents.{CoreEvent, Took}
use Rattle.kube_turn.specs.declared.taken.Taken.{Taken as HeldTaken}
use Rattle.kube_turn.specs.Views.{taken_of}

-- it is a take of something
abbrev pub IsSomething : {K D : Type 0} → (D → ObjectType) → HeldTaken K D → Type 0
IsSomething type_of x = is_some (taken_of type_of x) ≡ true

-- these takes, as events of what decides
abbrev pub taken_so_far : {O : Type 0} → ℕ → List (Taken O) → List (CoreEvent O)
taken_so_far at ts = map (λ t. Took at (Some t)) ts

-- these takes were handed over, and these were made: the same, or one more, for which memory was wanting
abbrev pub AreHandedOrLost : {O : Type 0} → List (Taken O) → List (Taken O) → Type 0
AreHandedOrLost {O} ts made = (made ≡ ts) ⊎ ((last : Taken O) × (made ≡ ts ++ last ∷ []))
