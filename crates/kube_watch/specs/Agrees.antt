-- What it means that a row of the table agrees with the definitions of owed call, seen version, error, completion and changes.
use Rattle.std.specs.Prelude.{◌≡◌, Bool, true, false, List, [], ◌∷◌, ◌++◌, Option, Some, None, if◌then◌else◌}
use Rattle.std.specs.List.{list_any, filter_map, flat_map}
use Rattle.kube_model.specs.declared.call.Call.{Call}
use Rattle.kube_model.specs.declared.call.Call.TheVariants.{List as ListCall, Watch, Next, Stream}
use Rattle.kube_model.specs.World.{Settings, Watched}
use Rattle.kube_model.specs.History.{Exchange}
use Rattle.kube_model.specs.Owed.{mark, owed, seen}
use Rattle.kube_model.specs.Fits.{error_of, has_references}
use Rattle.kube_model.specs.Store.{completes, changes_of, Change, Put, Gone}
use Rattle.kube_watch.specs.declared.event.Event.{Event}
use Rattle.kube_watch.specs.declared.event.Event.TheVariants.{Apply, Delete, Init, InitApply, InitDone}
use Rattle.kube_watch.specs.Stands.{row_of}

-- a call to an API
abbrev pub asks_api : Call → Bool
asks_api (ListCall token) = true
asks_api (Watch version initial) = true
asks_api Next = true
asks_api Stream = false

abbrev pub is_done : {O : Type 0} → Event O → Bool
is_done (Apply object) = false
is_done (Delete object) = false
is_done Init = false
is_done (InitApply object) = false
is_done InitDone = true

-- what an event changes of what is stored
abbrev pub change_of : {O : Type 0} → Event O → Option (Change O)
change_of (Apply object) = Some (Put object)
change_of (Delete object) = Some (Gone object)
change_of Init = None
change_of (InitApply object) = None
change_of InitDone = None

-- the object of an event
abbrev pub objects_of : {O : Type 0} → Event O → List O
objects_of (Apply object) = object ∷ []
objects_of (Delete object) = object ∷ []
objects_of Init = []
objects_of (InitApply object) = object ∷ []
objects_of InitDone = []

-- the row of an exchange after those before has the error, the owed call, the seen version and the changes of the definitions, InitDone exactly where they complete, and the objects that must become references
pub record Agrees {O : Type 0} (settings : Settings) (before : List (Exchange O)) (x : Exchange O) : Type 0 where
  pub error : (row_of settings before x).error ≡ error_of (mark before x)
  pub owes : (row_of settings before x).owed ≡ owed (Watched settings) (before ++ x ∷ [])
  pub keeps : (row_of settings before x).kept ≡ seen (before ++ x ∷ [])
  pub done : list_any is_done (row_of settings before x).events ≡ completes (mark before x)
  pub changes : filter_map change_of (row_of settings before x).events ≡ changes_of (mark before x)
  pub objects : flat_map objects_of (row_of settings before x).events ≡ (if has_references (mark before x) then x.items else [])
