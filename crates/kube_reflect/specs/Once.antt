-- The rule of an outcome's book, and what its step tells.
use Rattle.std.specs.Prelude.{ℕ, ◌≡◌, ◌≤◌, ◌==◌, true, List, [], ◌∷◌, length, MatchBool, Option, Some, None}
use Rattle.logbook.specs.Pages.{Cell, Step, View, Book, Named}

-- the first word is how many outcomes were set: at most one
pub record IsOnce {E : Type 0} (cells : List Cell) (log : List E) : Type 0 where
  pub words : cells ≡ (length log, true) ∷ (0, true) ∷ []
  pub once : length log ≤ 1

abbrev pub head_of : Book → Named
head_of b = record { tracked = true; key = 0; book = b }

-- the outcome was set, where none had been
abbrev pub IsSet : {E : Type 0} → Step E → View E ℕ → ℕ → View E ℕ → Type 0
IsSet s v found w = MatchBool (found == 0) (w.0 ≡ s.ask ∷ []) (Unit {0})

-- the list of what is known
abbrev pub listed : {E : Type 0} → Option E → List E
listed None = []
listed (Some o) = o ∷ []
