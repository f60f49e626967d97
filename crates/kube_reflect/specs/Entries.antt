-- What a writer tells its readers: its events, where a publish made them readable, and behind them its end. (Crate:
-- `reflector::store::Writer`, `reflector::Store`.)
use Rattle.std.specs.Prelude.{◌≡◌, ℕ, Bool, true, false, List, [], ◌∷◌, ◌++◌, map, drop, length, slice_index_or}
use Rattle.std.specs.List.{fold, list_any}
use Rattle.kube_meta.specs.Reference.{Reference}
use Rattle.kube_watch.specs.declared.event.Event.{Event}
use Rattle.kube_reflect.specs.Cached.{Kept, applied, nothing}
use Rattle.kube_reflect.specs.declared.copies.law.Entry.{Entry}
use Rattle.kube_reflect.specs.declared.copies.law.Entry.TheVariants.{Told, Shown, End}

module _ {O : Type 0} where
  abbrev pub entry_of : Event O → Entry O
  entry_of event = Told event

  abbrev pub entries_of : List (Event O) → List (Entry O)
  entries_of events = map entry_of events

  -- the events, and the end
  abbrev pub ended : List (Event O) → List (Entry O)
  ended events = entries_of events ++ End ∷ []

  abbrev pub is_end : Entry O → Bool
  is_end (Told event) = false
  is_end Shown = false
  is_end End = true

  -- whether the end is told
  abbrev pub has_end : List (Entry O) → Bool
  has_end es = list_any is_end es

  -- whether handles may read what ends with this entry
  abbrev pub is_shown : Entry O → Bool
  is_shown (Told event) = false
  is_shown Shown = true
  is_shown End = true

  -- whether a list was made readable by a publish or the end: it ends with it, or is the empty list
  abbrev pub is_readable : List (Entry O) → Bool
  is_readable [] = true
  is_readable (e ∷ []) = is_shown e
  is_readable (e ∷ f ∷ es) = is_readable (f ∷ es)

  -- the events and the end of a list, without its publishes
  abbrev pub told_in : List (Entry O) → List (Entry O)
  told_in [] = []
  told_in (Told event ∷ es) = Told event ∷ told_in es
  told_in (Shown ∷ es) = told_in es
  told_in (End ∷ es) = End ∷ told_in es

  -- a publish made these events readable by this list: they are all that it tells
  abbrev pub IsPublished : List (Entry O) → List (Event O) → Type 0
  IsPublished es events = (told_in es ≡ entries_of events) × (is_readable es ≡ true)

  -- the list that a publish of these events makes readable, after one that had been told
  abbrev pub with_publish : List (Entry O) → List (Event O) → List (Entry O)
  with_publish es events = es ++ (drop (length (told_in es)) (entries_of events) ++ Shown ∷ [])

  -- the entry at this place
  abbrev pub entry_at : List (Entry O) → ℕ → Entry O
  entry_at es place = slice_index_or es place End

module _ {O : Type 0} (key : O → Reference) where
  -- after one entry: a publish and the end change nothing that is stored
  abbrev pub after_entry : Kept O → Entry O → Kept O
  after_entry k (Told event) = applied key k event
  after_entry k Shown = k
  after_entry k End = k

  -- what a list that is told makes
  abbrev pub kept_by : List (Entry O) → Kept O
  kept_by es = fold after_entry nothing es
