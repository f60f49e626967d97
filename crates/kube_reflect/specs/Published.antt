-- What a writer publishes, and what is read of it. (Crate: `reflector::store::Writer`, `reflector::Store`.)
use Rattle.std.specs.Prelude.{◌≡◌, Bool, true, false, List, [], ◌∷◌, ◌++◌, Ok, Err, Result}
use Rattle.kube_meta.specs.declared.metadata.ObjectMeta.{ObjectMeta}
use Rattle.kube_meta.specs.declared.poll.Polled.{Polled}
use Rattle.kube_meta.specs.declared.poll.Polled.TheVariants.{Ready, NotReady}
use Rattle.kube_meta.specs.Reference.{ObjectType, Reference}
use Rattle.kube_meta.specs.Keys.{key_of}
use Rattle.kube_watch.specs.declared.event.Event.{Event}
use Rattle.kube_watch.specs.Events.{event_map}
use Rattle.kube_reflect.specs.Cached.{Kept, applied, kept_after}
use Rattle.kube_reflect.specs.Entries.{kept_by, has_end}
use Rattle.kube_reflect.specs.Writers.{Reader}
use Rattle.kube_reflect.specs.declared.reader.WriterDropped.{WriterDropped}

-- the type of the objects, the events of a watcher that were applied, and what they made
pub record Keeping (O : Type 0) : Type 0 where
  pub kind : ObjectType
  pub kept : Kept O
  pub events : List (Event O)

-- ready once a list was complete, also where the writer ended later; where it ended before, that is told
abbrev pub ready_by : Bool → Bool → Polled (Result (Unit {0}) WriterDropped)
ready_by true has_ended = Ready (Ok tt)
ready_by false true = Ready (Err (record {}))
ready_by false false = NotReady

module _ {O : Type 0} (meta : O → ObjectMeta) where
  -- what is kept was made by the events
  abbrev pub IsMade : Keeping O → Type 0
  IsMade k = k.kept ≡ kept_after (λ o. key_of k.kind (meta o)) k.events

  -- what the list that a handle read or learnt makes
  abbrev pub kept_in : Reader O → Kept O
  kept_in s = kept_by (λ o. key_of s.kind (meta o)) s.seen

  -- what it stores
  abbrev pub stored_in : Reader O → List (Reference × O)
  stored_in s = (kept_in s).cache

  -- what it tells of its writer
  abbrev pub readiness : Reader O → Polled (Result (Unit {0}) WriterDropped)
  readiness s = ready_by (kept_in s).is_ready (has_end s.seen)

-- with one more event applied, of shared objects A
abbrev pub keeping_with : {O A : Type 0} → (A → O) → (O → ObjectMeta) → Keeping O → Event A → Keeping O
keeping_with value meta k event = record k {
  kept = applied (λ o. key_of k.kind (meta o)) k.kept (event_map value event);
  events = k.events ++ event_map value event ∷ [];
}
