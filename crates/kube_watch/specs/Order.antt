-- In which order a watcher's events come. (Crate: `watcher::Event`, its documentation.)
use Rattle.std.specs.Prelude.{◌≡◌, Bool, true, false, List, [], ◌∷◌, ◌++◌, IsTrue}
use Rattle.kube_model.specs.World.{Settings, Watched}
use Rattle.kube_model.specs.History.{Exchange}
use Rattle.kube_model.specs.Owed.{owed}
use Rattle.kube_model.specs.Fits.{answers}
use Rattle.kube_watch.specs.declared.event.Event.{Event}
use Rattle.kube_watch.specs.declared.event.Event.TheVariants.{Apply, Delete, Init, InitApply, InitDone}
use Rattle.kube_watch.specs.Stands.{row_of}

-- nothing came yet; the objects that are there come; they came
pub data Phase : Type 0 where
  Unbegun : Phase
  Listing : Phase
  Listed : Phase

abbrev pub phase_after : {O : Type 0} → Phase → Event O → Phase
phase_after phase (Apply object) = phase
phase_after phase (Delete object) = phase
phase_after phase Init = Listing
phase_after phase (InitApply object) = phase
phase_after phase InitDone = Listed

-- objects that are there, and the end of them, come while they are listed; changes come after that; a list may begin at any time
abbrev pub may_come : {O : Type 0} → Phase → Event O → Bool
may_come phase Init = true
may_come Listing (InitApply object) = true
may_come Listing InitDone = true
may_come Listed (Apply object) = true
may_come Listed (Delete object) = true
may_come phase event = false

abbrev pub IsOrdered : {O : Type 0} → Phase → List (Event O) → Type 0
IsOrdered phase [] = Unit {0}
IsOrdered phase (e ∷ es) = IsTrue (may_come phase e) × IsOrdered (phase_after phase e) es

-- each exchange makes the call that is owed after those before it, and has an answer that this call may have
abbrev pub AreMade : {O : Type 0} → Settings → List (Exchange O) → List (Exchange O) → Type 0
AreMade settings before [] = Unit {0}
AreMade settings before (x ∷ xs) =
    (x.call ≡ owed (Watched settings) before) × (IsTrue (answers x.call x.answer) × AreMade settings (before ++ x ∷ []) xs)

-- what these exchanges tell, after those before
abbrev pub events_after : {O : Type 0} → Settings → List (Exchange O) → List (Exchange O) → List (Event O)
events_after settings before [] = []
events_after settings before (x ∷ xs) = (row_of settings before x).events ++ events_after settings (before ++ x ∷ []) xs

abbrev pub is_change : {O : Type 0} → Event O → Bool
is_change (Apply object) = true
is_change (Delete object) = true
is_change Init = false
is_change (InitApply object) = false
is_change InitDone = false
