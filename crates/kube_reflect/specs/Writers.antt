-- A writer and the handles of its subscribers. (Crate: `reflector::store::Writer`, `ReflectHandle`.)
use Rattle.std.specs.Prelude.{◌≡◌, ◌≢◌, ℕ, Bool, true, false, List, [], ◌∷◌, ◌++◌, Option, Some, None, is_some}
use Rattle.std.specs.List.{list_any}
use Rattle.std.specs.Option.{option_map}
use Rattle.logbook.specs.Pages.{Book}
use Rattle.kube_meta.specs.Reference.{ObjectType, Reference}
use Rattle.kube_meta.specs.declared.metadata.ObjectMeta.{ObjectMeta}
use Rattle.kube_meta.specs.Keys.{key_of}
use Rattle.kube_meta.specs.declared.poll.Next.{Next}
use Rattle.kube_watch.specs.declared.event.Event.{Event}
use Rattle.kube_watch.specs.Events.{event_map}
use Rattle.kube_reflect.specs.Cached.{Kept, applied, nothing}
use Rattle.kube_reflect.specs.declared.copies.law.Entry.{Entry}
use Rattle.kube_reflect.specs.Entries.{with_publish}
use Rattle.kube_reflect.specs.Subscribers.{Ring, is_full, offered, subscribed, free_number, with_waiting, waiting_for, closed, first_stored, given, left}

-- the type of its objects, what its events made, all events that it has applied, the list that its publishes made readable,
-- how many reader places it has left, its ring where it is shared, and the book that tells it from other writers
pub record Writing (O : Type 0) : Type 0 where
  pub kind : ObjectType
  pub kept : Kept O
  pub events : List (Event O)
  pub shown : List (Entry O)
  pub readers : ℕ
  pub ring : Option Ring
  pub book : Book

-- a handle that reads: the book of its writer, the type of its objects, and the list that it read or learnt
pub record Reader (O : Type 0) : Type 0 where
  pub book : Book
  pub kind : ObjectType
  pub seen : List (Entry O)

-- what a publish made readable: the book of its writer, the events that it had applied, and the list with where publishes
-- were
pub record Notice (O : Type 0) : Type 0 where
  pub book : Book
  pub events : List (Event O)
  pub shown : List (Entry O)

-- what a writer leaves: its book, and the list that it made readable
pub record Left (O : Type 0) : Type 0 where
  pub book : Book
  pub shown : List (Entry O)

-- the number of a subscriber, and whether its handle could have no memory
pub record Handle : Type 0 where
  pub number : ℕ
  pub is_spent : Bool

abbrev pub fresh : ℕ → Handle
fresh number = record { number = number; is_spent = false }

module _ {O : Type 0} where
  -- a writer to which nothing was applied
  abbrev pub new_writer : ObjectType → ℕ → Option Ring → Book → Writing O
  new_writer kind readers ring book = record { kind = kind; kept = nothing; events = []; shown = []; readers = readers; ring = ring; book = book }

  -- a handle of a writer, which has read nothing
  abbrev pub new_reader : Writing O → Reader O
  new_reader w = record { book = w.book; kind = w.kind; seen = [] }

  -- after a publish
  abbrev pub published : Writing O → Writing O
  published w = record w { shown = with_publish w.shown w.events }

  abbrev pub waits_for : Writing O → ℕ → Option (List Reference)
  waits_for w number = elim (w.ring) [ None ↦ None | Some ring ↦ waiting_for ring number ]

  -- whether the writer has a live subscriber of this number
  abbrev pub is_live : Writing O → ℕ → Bool
  is_live w number = is_some (waits_for w number)

  -- each subscriber that was live is live
  abbrev pub AllStay : Writing O → Writing O → Type 0
  AllStay w w' = (number : ℕ) → is_live w number ≡ true → is_live w' number ≡ true

  -- each other one that was live is live
  abbrev pub OthersStay : ℕ → Writing O → Writing O → Type 0
  OthersStay gone w w' = (number : ℕ) → number ≢ gone → is_live w number ≡ true → is_live w' number ≡ true

  -- whether a live subscriber has not taken as many offers as it may leave
  abbrev pub is_lagged : Writing O → Bool
  is_lagged w = elim (w.ring) [ None ↦ false | Some ring ↦ is_full ring ]

  -- whether the writer has a live subscriber
  abbrev pub has_live : Writing O → Bool
  has_live w = elim (w.ring) [ None ↦ false | Some ring ↦ list_any is_some ring.waiting ]

  -- the number of the next subscriber
  abbrev pub next_number : Writing O → ℕ
  next_number w = elim (w.ring) [ None ↦ 0 | Some ring ↦ free_number ring.waiting ]

  abbrev pub with_offer : Writing O → Reference → Writing O
  with_offer w r = record w { ring = option_map (λ ring. offered ring r) w.ring }

  abbrev pub with_subscriber : Writing O → List Reference → Writing O
  with_subscriber w rs = record w { ring = option_map (λ ring. subscribed ring rs) w.ring }

  abbrev pub without_subscriber : Writing O → ℕ → Writing O
  without_subscriber w number = record w { ring = option_map (λ ring. with_waiting ring number None) w.ring }

  abbrev pub with_close : Writing O → Writing O
  with_close w = record w { ring = option_map closed w.ring }

  -- whether no more offers follow
  abbrev pub is_over : Writing O → Bool
  is_over w = elim (w.ring) [ None ↦ false | Some ring ↦ ring.is_closed ]

  -- what waits for a subscriber that is there
  abbrev pub references_for : Writing O → ℕ → List Reference
  references_for w number = elim (waits_for w number) [ None ↦ [] | Some rs ↦ rs ]

  -- the object that a subscriber is given next, with the references that it has then not taken or passed over
  abbrev pub next_for : Writing O → ℕ → Option (O × List Reference)
  next_for w number = first_stored w.kept.cache (references_for w number)

  -- the answer to a subscriber: the next object, or where there is none the end or not ready
  abbrev pub answer_for : Writing O → ℕ → Next O
  answer_for w number = given (is_over w) (next_for w number)

  -- after it
  abbrev pub after_answer : Writing O → ℕ → Writing O
  after_answer w number = record w { ring = option_map (λ ring. with_waiting ring number (Some (left (next_for w number)))) w.ring }

-- of a writer of objects O, whose events are of shared objects A
module _ {O A : Type 0} (value : A → O) (meta : O → ObjectMeta) where
  abbrev pub key_in : Writing O → O → Reference
  key_in w o = key_of w.kind (meta o)

  -- with one event applied
  abbrev pub with_event : Writing O → Event A → Writing O
  with_event w event = record w { kept = applied (key_in w) w.kept (event_map value event); events = w.events ++ event_map value event ∷ [] }
