-- Nothing stays unreconciled, over the events of a core: every object that is stored was last handed over as it stands, or its key has an entry. O is the type of objects.
use Rattle.std.specs.Prelude.{◌≡◌, ◌⊎◌, Bool, true, List, Option, Some, None, is_some}
use Rattle.std.specs.List.{filter_map, AllByRecursion}
use Rattle.kube_meta.specs.Reference.{Reference}
use Rattle.kube_model.specs.Cuts.{last}
use Rattle.kube_model.specs.History.{same_message}
use Rattle.kube_model.specs.Queue.{entry}
use Rattle.kube_model.specs.Settled.{about, if_keyed}
use Rattle.kube_history.specs.CoreWorld.{CoreWorld, world_of}
use Rattle.kube_history.specs.CoreEvents.{CoreEvent, Took, cache_of, queue_of}

module _ {O : Type 0} (core : CoreWorld O) where
  -- the object that an event hands over, where it was found under this key
  abbrev pub handed_by : Reference → CoreEvent O → Option O
  handed_by r (Took at (Some t)) = if_keyed (world_of core) r t.object
  handed_by r _ = None

  -- the last one
  abbrev pub last_handed_in : List (CoreEvent O) → Reference → Option O
  last_handed_in es r = last (filter_map (handed_by r) es)

  abbrev pub has_entry : List (CoreEvent O) → Reference → Bool
  has_entry es r = is_some (entry same_message core.debounce (queue_of core es) (about r))

  -- the object was last handed over as it stands, or its key has an entry
  abbrev pub IsSettledIn : List (CoreEvent O) → O → Type 0
  IsSettledIn es o = (last_handed_in es (core.key o) ≡ Some o) ⊎ (has_entry es (core.key o) ≡ true)

  -- so it is of all that are stored
  abbrev pub AreSettled : List (CoreEvent O) → Type 0
  AreSettled es = AllByRecursion (IsSettledIn es) (cache_of core es)
