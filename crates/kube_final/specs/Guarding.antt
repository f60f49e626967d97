-- What contracts see of a finalizer. K is the type of the object.
use Rattle.std.specs.Prelude.{ℕ, Bool, false, List, Option, None}

-- the finalizer's name, the object as it was seen, the action of its cleanup once that has succeeded, whether a poll was ready, and whether one once had no memory
pub record Guarding (K : Type 0) : Type 0 where
  pub name : List ℕ
  pub object : K
  pub outcome : Option (Option ℕ)
  pub is_over : Bool
  pub is_spent : Bool

-- one that was not polled
abbrev pub guarding : {K : Type 0} → List ℕ → K → Guarding K
guarding name object = record { name = name; object = object; outcome = None; is_over = false; is_spent = false }
