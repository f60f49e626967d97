-- Lists of a watcher within its events. (Kubernetes API concepts, "efficient detection of changes"; crate: `watcher::Event`.)
use Rattle.std.specs.Prelude.{Bool, true, false, List, Option, Some, None}
use Rattle.std.specs.List.{filter_map}
use Rattle.kube_watch.specs.declared.event.Event.{Event}
use Rattle.kube_watch.specs.declared.event.Event.TheVariants.{Apply, Delete, Init, InitApply, InitDone}

module _ {O : Type 0} where
  -- whether a list begins after this event
  abbrev pub begins_list : Event O → Bool
  begins_list Init = true
  begins_list InitDone = true
  begins_list (Apply o) = false
  begins_list (Delete o) = false
  begins_list (InitApply o) = false

  -- the object that this event lists
  abbrev pub listed_object : Event O → Option O
  listed_object (InitApply o) = Some o
  listed_object (Apply o) = None
  listed_object (Delete o) = None
  listed_object Init = None
  listed_object InitDone = None

  -- the objects that these events list, in order
  abbrev pub listed : List (Event O) → List O
  listed events = filter_map listed_object events
