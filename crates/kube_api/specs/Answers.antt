-- What an API answered, as plain data.
use Rattle.std.specs.Prelude.{Bool, true, false, map, Option, Some, None, Result, Ok, Err}
use Rattle.std.specs.Arc.{arc_value}
use Rattle.kube_meta.specs.declared.poll.Polled.{Polled}
use Rattle.kube_meta.specs.declared.poll.Polled.TheVariants.{Ready, NotReady}
use Rattle.kube_model.specs.declared.error.ApiError.{ApiError}
use Rattle.kube_model.specs.Raw.{RawAnswer, Waits, Fails, GivesPage, Opens, GivesAdded, GivesModified, GivesDeleted, GivesBookmark, GivesError, Ends}
use Rattle.kube_api.specs.declared.event.Page.{Page}
use Rattle.kube_api.specs.declared.event.WatchEvent.{WatchEvent}
use Rattle.kube_api.specs.declared.event.WatchEvent.TheVariants.{Added, Modified, Deleted, Bookmark, Error}

abbrev pub list_answer : {K : Type 0} → Polled (Result (Page K) ApiError) → RawAnswer K
list_answer NotReady = Waits
list_answer (Ready (Err e)) = Fails e
list_answer (Ready (Ok p)) = GivesPage (map arc_value p.items) p.token p.version

abbrev pub watch_answer : {K U : Type 0} → Polled (Result U ApiError) → RawAnswer K
watch_answer NotReady = Waits
watch_answer (Ready (Err e)) = Fails e
watch_answer (Ready (Ok u)) = Opens

abbrev pub is_watch_fault : {U : Type 0} → Polled (Result U ApiError) → Bool
is_watch_fault NotReady = false
is_watch_fault (Ready (Err e)) = true
is_watch_fault (Ready (Ok u)) = false

abbrev pub event_answer : {K : Type 0} → WatchEvent K → RawAnswer K
event_answer (Added o) = GivesAdded (arc_value o)
event_answer (Modified o) = GivesModified (arc_value o)
event_answer (Deleted o) = GivesDeleted (arc_value o)
event_answer (Bookmark b) = GivesBookmark b.version b.annotations
event_answer (Error status) = GivesError status

abbrev pub next_answer : {K : Type 0} → Polled (Option (Result (WatchEvent K) ApiError)) → RawAnswer K
next_answer NotReady = Waits
next_answer (Ready None) = Ends
next_answer (Ready (Some (Err e))) = Fails e
next_answer (Ready (Some (Ok e))) = event_answer e
