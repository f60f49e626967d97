-- The greatest length of a script, and what is read of a source that has more.
use Rattle.std.specs.Prelude.{ℕ, ◌≤◌, List, Option, length}
use Rattle.std.specs.Io.KnownBytes.{Consumes}

-- in bytes
abbrev pub longest : ℕ
longest = 16777216

-- what was taken are the first of the bytes that were left, and at most so many
pub record TakesAtMost (most : ℕ) (old new : Option (List ℕ)) : Type 0 where
  pub taken : List ℕ
  pub consumed : Consumes old new taken
  pub within : length taken ≤ most
