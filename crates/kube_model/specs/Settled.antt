-- Nothing stays unreconciled: every object that a watched root stores was last handed over as it stands, or its key has an entry.
use Rattle.std.specs.Prelude.{◌≡◌, ◌⊎◌, true, List, Option, Some, None, if◌then◌else◌, is_some}
use Rattle.std.specs.List.{filter_map, flat_map, AllByRecursion}
use Rattle.kube_meta.specs.Reference.{Reference, same_reference}
use Rattle.kube_model.specs.Reason.{Unknown}
use Rattle.kube_model.specs.World.{World}
use Rattle.kube_model.specs.History.{Message, Step}
use Rattle.kube_model.specs.Cuts.{last}
use Rattle.kube_model.specs.Stored.{store_after}
use Rattle.kube_model.specs.Requests.{entry_in}

-- entries are found by the reference alone, so any reason will do
abbrev pub about : Reference → Message
about r = record { reference = r; reason = Unknown }

module _ {O B : Type 0} (w : World O B) where
  abbrev pub if_keyed : Reference → Option O → Option O
  if_keyed r None = None
  if_keyed r (Some o) = if same_reference (w.key o) r then Some o else None

  -- the last object handed over that was found under this key
  abbrev pub last_handed : List (Step O) → Reference → Option O
  last_handed h r = last (filter_map (λ t. if_keyed r t.object) (flat_map (λ s. s.made.taken) h))

  -- the object was last handed over as it stands, or its key has an entry
  abbrev pub IsSettledAt : List (Step O) → O → Type 0
  IsSettledAt h o = (last_handed h (w.key o) ≡ Some o) ⊎ (is_some (entry_in w h (about (w.key o))) ≡ true)

  abbrev pub IsSettled : List (Step O) → Type 0
  IsSettled h = AllByRecursion (IsSettledAt h) (store_after w h)
