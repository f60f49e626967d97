-- The watcher's table: what each call with its answer tells, and what is owed and kept then. O is the type of objects. (Crate: `watcher::step_trampolined`; Kubernetes API concepts "watch", "bookmarks", "streaming lists", status 410.)
use Rattle.std.specs.Prelude.{ℕ, Bool, true, false, ◌==◌, List, [], ◌∷◌, ◌++◌, map, Option, Some, None, if◌then◌else◌}
use Rattle.kube_model.specs.declared.call.Call.{Call}
use Rattle.kube_model.specs.declared.call.Call.TheVariants.{List as ListCall, Watch, Next, Stream}
use Rattle.kube_model.specs.declared.call.Answer.{Answer}
use Rattle.kube_model.specs.declared.call.Answer.TheVariants.{Page, Opened, Added, Modified, Deleted, Bookmark, ErrorItem, Fault, End, Idle}
use Rattle.kube_model.specs.declared.error.Error.{Error}
use Rattle.kube_model.specs.declared.error.Error.TheVariants.{InitialListFailed, WatchStartFailed, WatchError, WatchFailed, NoResourceVersion}
use Rattle.kube_model.specs.World.{Settings, start_by}
use Rattle.kube_watch.specs.declared.event.Event.{Event}
use Rattle.kube_watch.specs.declared.event.Event.TheVariants.{Apply, Delete, Init, InitApply, InitDone}

-- a row: what is told, in order, the error after it, the call that is owed then, and the version that is kept, from which a later watch goes on
pub record Row (O : Type 0) : Type 0 where
  pub events : List (Event O)
  pub error : Option Error
  pub owed : Call
  pub kept : List ℕ

abbrev pub row : {O : Type 0} → List (Event O) → Option Error → Call → List ℕ → Row O
row events error owed kept = record { events = events; error = error; owed = owed; kept = kept }

-- the list without a token begins with Init
abbrev pub begun : {O : Type 0} → Option (List ℕ) → List (Event O)
begun None = Init ∷ []
begun (Some token) = []

abbrev pub all_init : {O : Type 0} → List O → List (Event O)
all_init items = map InitApply items

-- an error item of code 410 starts anew
abbrev pub after_error : Settings → ℕ → Call
after_error settings code = if code == 410 then start_by settings else Next

-- kept is the version that was kept before, and items are the objects that came
module _ {O : Type 0} (settings : Settings) (kept : List ℕ) where
  -- the list with or without a token; the last row is of an answer that is not ready
  abbrev pub list_rows : Option (List ℕ) → Answer → List O → Row O
  list_rows token (Page (Some next) version) items = row (begun token ++ all_init items) None (ListCall (Some next)) kept
  list_rows token (Page None (Some version)) items = row (begun token ++ (all_init items ++ InitDone ∷ [])) None (Watch version false) version
  list_rows token (Page None None) items = row (begun token) (Some NoResourceVersion) (start_by settings) kept
  list_rows token (Fault error) items = row (begun token) (Some (InitialListFailed error)) (start_by settings) kept
  list_rows token _ items = row [] None (ListCall token) kept

  -- the start by a watch
  abbrev pub start_rows : List ℕ → Answer → Row O
  start_rows version Opened = row (Init ∷ []) None Next kept
  start_rows version (Fault error) = row [] (Some (WatchStartFailed error)) (start_by settings) kept
  start_rows version _ = row [] None (Watch version true) kept

  -- the later watch, from the kept version
  abbrev pub watch_rows : List ℕ → Answer → Row O
  watch_rows version Opened = row [] None Next kept
  watch_rows version (Fault error) = row [] (Some (WatchStartFailed error)) (Watch kept false) kept
  watch_rows version _ = row [] None (Watch version false) kept

  -- a `next` of an initial watch
  abbrev pub initial_rows : Answer → List O → Row O
  initial_rows (Added version) items = row (all_init items) None Next kept
  initial_rows (Modified version) items = row (all_init items) None Next kept
  initial_rows (Deleted version) items = row [] None Next kept
  initial_rows (Bookmark version true) items = row (InitDone ∷ []) None Next version
  initial_rows (Bookmark version false) items = row [] None Next kept
  initial_rows (ErrorItem status) items = row [] (Some (WatchError status)) (after_error settings status.code) kept
  initial_rows (Fault error) items = row [] (Some (WatchFailed error)) Next kept
  initial_rows End items = row [] None (start_by settings) kept
  initial_rows Idle items = row [] None (start_by settings) kept
  initial_rows _ items = row [] None Next kept

  -- a `next` of a later watch
  abbrev pub later_rows : Answer → List O → Row O
  later_rows (Added (Some version)) items = row (map Apply items) None Next version
  later_rows (Modified (Some version)) items = row (map Apply items) None Next version
  later_rows (Deleted (Some version)) items = row (map Delete items) None Next version
  later_rows (Added None) items = row [] (Some NoResourceVersion) (start_by settings) kept
  later_rows (Modified None) items = row [] (Some NoResourceVersion) (start_by settings) kept
  later_rows (Deleted None) items = row [] (Some NoResourceVersion) (start_by settings) kept
  later_rows (Bookmark version ending) items = row [] None Next version
  later_rows (ErrorItem status) items = row [] (Some (WatchError status)) (after_error settings status.code) kept
  later_rows (Fault error) items = row [] (Some (WatchFailed error)) Next kept
  later_rows End items = row [] None (Watch kept false) kept
  later_rows Idle items = row [] None (Watch kept false) kept
  later_rows _ items = row [] None Next kept

  -- the table; initial says whether a `next` belongs to an initial watch. A watcher has no stream
  abbrev pub table : Bool → Call → Answer → List O → Row O
  table initial (ListCall token) answer items = list_rows token answer items
  table initial (Watch version true) answer items = start_rows version answer
  table initial (Watch version false) answer items = watch_rows version answer
  table true Next answer items = initial_rows answer items
  table false Next answer items = later_rows answer items
  table initial Stream answer items = row [] None Stream kept
