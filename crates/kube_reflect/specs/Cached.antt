-- What the events of a watcher make of a store. (Crate: `Writer::apply_watcher_event`.)
use Rattle.std.specs.Prelude.{Bool, true, false, List, [], Option, Some, None}
use Rattle.std.specs.List.{fold}
use Rattle.kube_meta.specs.declared.metadata.ObjectMeta.{ObjectMeta}
use Rattle.kube_meta.specs.Reference.{Reference}
use Rattle.kube_meta.specs.Keys.{is_named}
use Rattle.kube_model.specs.Store.{put, drop}
use Rattle.kube_watch.specs.declared.event.Event.{Event}
use Rattle.kube_watch.specs.declared.event.Event.TheVariants.{Apply, Delete, Init, InitApply, InitDone}

-- what is stored, what the list under way has so far, and whether a list was complete
pub record Kept (O : Type 0) : Type 0 where
  pub cache : List (Reference × O)
  pub buffer : List (Reference × O)
  pub is_ready : Bool

-- before any event
abbrev pub nothing : {O : Type 0} → Kept O
nothing = record { cache = []; buffer = []; is_ready = false }

module _ {O : Type 0} where
  -- the object of an event
  abbrev pub object_of : Event O → Option O
  object_of (Apply o) = Some o
  object_of (Delete o) = Some o
  object_of Init = None
  object_of (InitApply o) = Some o
  object_of InitDone = None

  -- whether an event has no object, or one that has a name
  abbrev pub has_name : (O → ObjectMeta) → Event O → Bool
  has_name meta (Apply o) = is_named (meta o)
  has_name meta (Delete o) = is_named (meta o)
  has_name meta Init = true
  has_name meta (InitApply o) = is_named (meta o)
  has_name meta InitDone = true

  -- under their references: a put of a present one keeps its place, a new one goes last
  abbrev pub put_under : List (Reference × O) → Reference × O → List (Reference × O)
  put_under = put (λ p. p.0)

  -- and a drop closes up
  abbrev pub drop_under : List (Reference × O) → Reference × O → List (Reference × O)
  drop_under = drop (λ p. p.0)

module _ {O : Type 0} (key : O → Reference) where
  -- an object beside its own reference
  abbrev pub keyed : O → Reference × O
  keyed o = (key o, o)

  -- after one event: Apply puts, Delete drops, Init begins a list, InitApply adds to it, InitDone puts it in place of all
  abbrev pub applied : Kept O → Event O → Kept O
  applied k (Apply o) = record k { cache = put_under k.cache (keyed o) }
  applied k (Delete o) = record k { cache = drop_under k.cache (keyed o) }
  applied k Init = record k { buffer = [] }
  applied k (InitApply o) = record k { buffer = put_under k.buffer (keyed o) }
  applied k InitDone = record { cache = k.buffer; buffer = []; is_ready = true }

  -- after these events
  abbrev pub kept_after : List (Event O) → Kept O
  kept_after events = fold applied nothing events

  -- what is stored after these events
  abbrev pub cache : List (Event O) → List (Reference × O)
  cache events = (kept_after events).cache
