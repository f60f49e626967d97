-- What may happen to a stock. K is the type of things, D that of what is known of it when the program runs.
use Rattle.std.specs.Prelude.{◌≡◌, ℕ, List, [], ◌∷◌, ◌++◌, Option, Some, None}

-- what a stock is: things, of which the last is taken first, and their place
pub record Stocked (K D : Type 0) : Type 0 where
  pub things : List K
  pub place : D

-- an entry of the history
pub data Entry (K : Type 0) : Type 0 where
  Took : (pass : ℕ) (thing : Option K) → Entry K
  Marked : (pass : ℕ) → Entry K

-- what lies under the lock tells this
pub record Desked (K D : Type 0) : Type 0 where
  pub opened : Stocked K D
  pub entries : List (Entry K)

module _ {K : Type 0} where
  abbrev pub number_of : Entry K → ℕ
  number_of (Took pass thing) = pass
  number_of (Marked pass) = pass

module _ {K D : Type 0} where
  -- the last thing is taken, where there is one
  abbrev pub IsTake : Stocked K D → Option K → Stocked K D → Type 0
  IsTake s None after = (s.things ≡ []) × (after ≡ s)
  IsTake s (Some thing) after = s ≡ record after { things = after.things ++ thing ∷ [] }

  abbrev pub Happens : Stocked K D → Entry K → Stocked K D → Type 0
  Happens s (Took pass thing) after = IsTake s thing after
  Happens s (Marked pass) after = after ≡ s

  -- what these entries leave of a stock
  abbrev pub Leaves : Stocked K D → List (Entry K) → Stocked K D → Type 0
  Leaves s [] after = after ≡ s
  Leaves s (e ∷ es) after = (next : Stocked K D) × Happens s e next × Leaves next es after

  -- these entries may happen to a stock
  abbrev pub MayHappen : Stocked K D → List (Entry K) → Type 0
  MayHappen s [] = Unit {0}
  MayHappen s (e ∷ es) = (next : Stocked K D) × Happens s e next × MayHappen next es

  abbrev pub front_may_happen : (opening : Stocked K D) (front rest : List (Entry K)) → MayHappen opening (front ++ rest) → MayHappen opening front
  front_may_happen opening [] rest h = tt
  front_may_happen opening (e ∷ es) rest h = (h.0, h.1, front_may_happen h.0 es rest h.2)
