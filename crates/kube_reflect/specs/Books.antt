-- The rule of the book of what a writer tells, and what its step tells.
use Rattle.std.specs.Prelude.{ℕ, ◌≡◌, ◌==◌, true, List, [], ◌∷◌, ◌++◌, length, MatchBool}
use Rattle.logbook.specs.Pages.{Cell, Step, View}

module _ {E : Type 0} where
  -- the first word is the length of the list
  pub record IsCounted (cells : List Cell) (log : List E) : Type 0 where
    pub words : cells ≡ (length log, true) ∷ (0, true) ∷ []

  -- the entry was added to all that had been seen; or the list was longer
  abbrev pub Adds : Step E → View E ℕ → ℕ → View E ℕ → Type 0
  Adds s v found w = MatchBool (found == s.old) (w.0 ≡ v.0 ++ s.ask ∷ []) (Unit {0})
