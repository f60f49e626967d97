-- Whether what came from a source has the names that it must have, said of what came itself; and a turn that is broken off where it hasn't.
use Rattle.std.specs.Prelude.{◌≡◌, ℕ, zero, suc, Bool, true, false, not, ◌||◌, List, [], ◌∷◌, ◌++◌, Option, Some, IsTrue}
use Rattle.std.specs.List.{list_all, AllByRecursion}
use Rattle.kube_model.specs.World.{World, Feed, Watched, Streamed, Queued, feed_of}
use Rattle.kube_model.specs.Raw.{Raw}
use Rattle.kube_model.specs.Streams.{StreamAnswer, Gives, Unnamed}
use Rattle.kube_model.specs.History.{Exchange, Turn, Step, exchanges_with, exchanges_of}
use Rattle.kube_model.specs.Owed.{is_initial, mark, owed}
use Rattle.kube_model.specs.Fits.{answers, brings_references, has_references}
use Rattle.kube_model.specs.Recorded.{answer_of, items_of, raw_call}
use Rattle.kube_model.specs.Turns.{next_source}
use Rattle.kube_model.specs.Traces.{IsValid, EachIsNext}

-- what came from a source: the answer of an API to a call, or that of a stream. V is the type of its objects
pub data Form (V : Type 0) : Type 0 where
  OfCall : (raw : Raw V) → Form V
  OfStream : (answer : StreamAnswer V) → Form V

module _ {V : Type 0} (is_named : V → Bool) where
  -- a stream may tell by itself that an item had no name
  abbrev pub is_given_named : StreamAnswer V → Bool
  is_given_named (Gives item) = is_named item
  is_given_named Unnamed = false
  is_given_named _ = true

  module _ {O : Type 0} (version : V → Option (List ℕ)) where
    -- each object that must become a reference has a name, after these exchanges of the source
    abbrev pub has_names : List (Exchange O) → Form V → Bool
    has_names own (OfCall raw) = not (brings_references (is_initial own) false (answer_of version raw.answer)) || list_all is_named (items_of raw.answer)
    has_names own (OfStream answer) = is_given_named answer

    -- it came by the call that is owed after these, and answers it
    abbrev pub IsOwedForm : Feed → List (Exchange O) → Form V → Type 0
    IsOwedForm (Watched settings) own (OfCall raw) =
        (raw_call settings (owed (Watched settings) own) ≡ Some raw.call) × IsTrue (answers (owed (Watched settings) own) (answer_of version raw.answer))
    IsOwedForm (Watched settings) own (OfStream answer) = ⊥
    IsOwedForm Streamed own (OfCall raw) = ⊥
    IsOwedForm Streamed own (OfStream answer) = Unit {0}
    IsOwedForm Queued own (OfCall raw) = ⊥
    IsOwedForm Queued own (OfStream answer) = Unit {0}

module _ {O B : Type 0} (w : World O B) where
  -- each recorded object of the root that must become a reference has a name; they are those that came
  abbrev pub AreNamed : List (Exchange O) → Exchange O → Type 0
  AreNamed own x = IsTrue (has_references (mark own x)) → AllByRecursion (λ o. IsTrue (w.is_named o)) x.items

  -- the objects of the root's exchanges have names; a related source's exchange keeps none
  abbrev pub RootIsNamed : ℕ → List (Exchange O) → Exchange O → Type 0
  RootIsNamed zero own x = AreNamed own x
  RootIsNamed (suc place) own x = Unit {0}

  -- each of these came with its names: named says so of an exchange of a source, after those of that source
  module _ (named : ℕ → List (Exchange O) → Exchange O → Type 0) where
    abbrev pub EachIsNamed : List (Step O) → Turn → List (Exchange O) → List (Exchange O) → Type 0
    EachIsNamed h t before [] = Unit {0}
    EachIsNamed h t before (x ∷ xs) = named x.source (exchanges_of x.source (exchanges_with h t before)) x × EachIsNamed h t (before ++ x ∷ []) xs

    -- so in each of these turns, after those before them
    abbrev pub AreNamedTurns : List (Step O) → List (Step O) → Type 0
    AreNamedTurns before [] = Unit {0}
    AreNamedTurns before (s ∷ h) = EachIsNamed before s.turn [] s.made.exchanges × AreNamedTurns (before ++ s ∷ []) h

    -- a turn after a history is broken off by what came from this source: it is asked next after these exchanges, which came with their names, by the call that it owes, and what came is without one
    pub record IsUnnamedAt {V : Type 0} (is_named : V → Bool) (version : V → Option (List ℕ)) (h : List (Step O)) (t : Turn) (before : List (Exchange O)) (source : ℕ) (form : Form V) : Type 0 where
      pub valid : IsValid h t
      pub made : EachIsNext w h t [] before
      pub each_named : EachIsNamed h t [] before
      pub next : next_source w h t before ≡ Some source
      pub owes : IsOwedForm is_named version (feed_of w source) (exchanges_of source (exchanges_with h t before)) form
      pub unnamed : has_names is_named version (exchanges_of source (exchanges_with h t before)) form ≡ false
