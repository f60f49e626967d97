-- Results apart from errors. (Crate: `utils`.)
use Rattle.std.specs.Prelude.{List, [], ◌∷◌, Result, Ok, Err}

-- what is ok, in order
abbrev pub items_of : {T E : Type 0} → List (Result T E) → List T
items_of [] = []
items_of (Ok item ∷ rest) = item ∷ items_of rest
items_of (Err e ∷ rest) = items_of rest

-- the errors, in order
abbrev pub errors_of : {T E : Type 0} → List (Result T E) → List E
errors_of [] = []
errors_of (Ok item ∷ rest) = errors_of rest
errors_of (Err e ∷ rest) = e ∷ errors_of rest
