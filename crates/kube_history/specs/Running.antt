-- That references run one at a time, that as many run as may, and what follows a shutdown. O is the type of objects.
use Rattle.std.specs.Prelude.{◌≡◌, ◌⊎◌, ◌≤◌, ℕ, true, false, List, [], ◌∷◌, ◌++◌, length}
use Rattle.kube_model.specs.World.{World}
use Rattle.kube_model.specs.History.{Step}
use Rattle.kube_model.specs.Shutdowns.{is_forced}
use Rattle.kube_model.specs.Takes.{Running, running, runs}
use Rattle.kube_history.specs.TurnEvents.{was_over}

module _ {O : Type 0} where
  -- no two equal references
  abbrev pub RunOnce : List (Running O) → Type 0
  RunOnce [] = Unit {0}
  RunOnce (p ∷ ps) = (runs ps p.reference ≡ false) × RunOnce ps

  -- at most the limit; 0 is unbounded
  abbrev pub IsWithin : ℕ → List (Running O) → Type 0
  IsWithin limit rs = (limit ≡ 0) ⊎ (length rs ≤ limit)

  pub record MayRun (limit : ℕ) (rs : List (Running O)) : Type 0 where
    pub once : RunOnce rs
    pub within : IsWithin limit rs

module _ {O B : Type 0} (w : World O B) where
  -- a turn that these follow: where shutdown was asked or given up by its end nothing is taken, and it is the last where nothing runs; a forced one is the last; and none follows one that has ended
  pub record ShutsDown (before : List (Step O)) (s : Step O) (after : List (Step O)) : Type 0 where
    pub none_taken : was_over w (before ++ s ∷ []) ≡ true → s.made.taken ≡ []
    pub idle : was_over w (before ++ s ∷ []) ≡ true → running (before ++ s ∷ []) ≡ [] → s.made.ended ≡ true
    pub forced : is_forced s.turn.shutdown ≡ true → s.made.ended ≡ true
    pub ends : s.made.ended ≡ true → after ≡ []

  abbrev pub EachShutsDown : List (Step O) → List (Step O) → Type 0
  EachShutsDown before [] = Unit {0}
  EachShutsDown before (s ∷ h) = ShutsDown before s h × EachShutsDown (before ++ s ∷ []) h
