-- What a stream gives that passes on each answer of another one. (Crate: the streams of `WatchStreamExt`.)
use Rattle.std.specs.Prelude.{◌≡◌, ℕ, List, [], ◌∷◌, ◌++◌}
use Rattle.kube_watch.specs.Streams.{Answer}
use Rattle.kube_watch.specs.Asking.{Asked}
use Rattle.kube_streams.specs.Adapts.{Told, told_in, all_told}

-- what answers give, in order
abbrev pub answers_told : {I : Type 0} → List (ℕ × Answer I) → List (Told I)
answers_told [] = []
answers_told (a ∷ more) = told_in a.1 ++ answers_told more

module _ {Q J : Type 0} (polls : Q → ℕ → ℕ → Answer J → Q → Type 0) where
  -- a stream was polled, again and again, each time at a moment and with some fuel, and answered so
  abbrev pub PolledInTurn : Q → List (ℕ × ℕ × Answer J) → Q → Type 0
  PolledInTurn a [] b = b ≡ a
  PolledInTurn a (p ∷ more) b = (m : Q) × polls a p.0 p.1 p.2 m × PolledInTurn m more b

module _ {S I : Type 0} (polls : S → ℕ → ℕ → Answer I → S → Type 0) where
  -- a stream was asked, again and again, each time at a moment and with some fuel, and answered so
  abbrev pub AskedInTurn : S → List (ℕ × ℕ × Answer I) → S → Type 0
  AskedInTurn s ps r = PolledInTurn (λ s now fuel answer r. Asked polls now fuel s answer r) s ps r

  -- polls of the stream, each with fuel 1 at its moment, and their answers
  abbrev pub Answered : S → List (ℕ × Answer I) → S → Type 0
  Answered s [] r = r ≡ s
  Answered s (a ∷ more) r = (m : S) × polls s a.0 1 a.1 m × Answered m more r

  -- what was passed on is all that the stream's answers give, in order
  pub record PassedOn (s : S) (ps : List (ℕ × ℕ × Answer I)) (r : S) : Type 0 where
    pub answers : List (ℕ × Answer I)
    pub answered : Answered s answers r
    pub told : all_told ps ≡ answers_told answers
