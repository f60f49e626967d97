-- A stream that applies its events to a writer. (Crate: `utils::Reflect`.)
use Rattle.std.specs.Prelude.{◌≡◌, ◌⊎◌, ℕ, true, false, List, Option, Some, None, Ok, Err}
use Rattle.std.specs.List.{fold}
use Rattle.kube_meta.specs.declared.metadata.ObjectMeta.{ObjectMeta}
use Rattle.kube_meta.specs.declared.poll.Next.TheVariants.{Item, NotReady, Spent, End}
use Rattle.kube_watch.specs.declared.event.Event.{Event}
use Rattle.kube_watch.specs.declared.stream.StreamFault.{StreamFault}
use Rattle.kube_watch.specs.declared.stream.StreamFault.TheVariants.{NoMemory, Unnamed}
use Rattle.kube_watch.specs.Events.{event_map}
use Rattle.kube_watch.specs.Streams.{Answer}
use Rattle.kube_reflect.specs.Cached.{has_name}
use Rattle.kube_reflect.specs.Reflects.{with_event}
use Rattle.kube_watch.specs.Asking.{Asked, fault_in}
use Rattle.kube_reflect.specs.Writers.{Writing}
use Rattle.kube_streams.specs.Adapts.{Told, all_told}
use Rattle.kube_streams.specs.InOrder.{PassedOn}

-- a stream S, the writer of objects O, and the fault that is answered from then on
pub record Applying (O S : Type 0) : Type 0 where
  pub stream : S
  pub writer : Writing O
  pub fault : Option StreamFault

-- with another writer
abbrev pub with_writer : {O S : Type 0} → Applying O S → Writing O → Applying O S
with_writer a w = record a { writer = w }

module _ {O A : Type 0} (value : A → O) (meta : O → ObjectMeta) where
  -- an event is applied and given; or it has no name, or memory can't be had, and then the writer is as before
  abbrev pub IsApplied : Writing O → Event A → Answer (Event A) → Writing O → Type 0
  IsApplied w event answer w' =
      ((has_name meta (event_map value event) ≡ true) × (answer ≡ Ok (Item (Ok event))) × (w' ≡ with_event value meta w event))
      ⊎ ((has_name meta (event_map value event) ≡ false) × (answer ≡ Err Unnamed) × (w' ≡ w))
      ⊎ ((answer ≡ Err NoMemory) × (w' ≡ w))

  -- all but events is given as it is
  abbrev pub AnswerApplied : Writing O → Answer (Event A) → Answer (Event A) → Writing O → Type 0
  AnswerApplied w (Ok (Item (Ok event))) answer w' = IsApplied w event answer w'
  AnswerApplied w (Ok (Item (Err e))) answer w' = (answer ≡ Ok (Item (Err e))) × (w' ≡ w)
  AnswerApplied w (Ok NotReady) answer w' = (answer ≡ Ok NotReady) × (w' ≡ w)
  AnswerApplied w (Ok Spent) answer w' = (answer ≡ Ok Spent) × (w' ≡ w)
  AnswerApplied w (Ok End) answer w' = (answer ≡ Ok End) × (w' ≡ w)
  AnswerApplied w (Err fault) answer w' = (answer ≡ Err fault) × (w' ≡ w)

  module _ {S : Type 0} (polls : S → ℕ → ℕ → Answer (Event A) → S → Type 0) where
    -- the stream is asked, and its event is applied before it is given
    pub record Passed (now fuel : ℕ) (a : Applying O S) (answer : Answer (Event A)) (b : Applying O S) : Type 0 where
      pub last : Answer (Event A)
      pub asked : Asked polls now fuel a.stream last b.stream
      pub applied : AnswerApplied a.writer last answer b.writer
      pub fault : b.fault ≡ fault_in answer

    -- a poll: after a fault it answers only that
    abbrev pub Applied : Option StreamFault → ℕ → ℕ → Applying O S → Answer (Event A) → Applying O S → Type 0
    Applied (Some fault) now fuel a answer b = (answer ≡ Err fault) × (b ≡ a)
    Applied None now fuel a answer b = Passed now fuel a answer b

  -- ---- over many polls

  -- with what was told applied: an event; an error leaves the writer
  abbrev pub with_told : Writing O → Told (Event A) → Writing O
  with_told w (Ok event) = with_event value meta w event
  with_told w (Err e) = w

  module _ {S : Type 0} (polls : S → ℕ → ℕ → Answer (Event A) → S → Type 0) where
    -- all that was told is applied, in order; and where there was no fault it is all that the stream's answers tell, in order
    pub record AppliedSoFar (a : Applying O S) (ps : List (ℕ × ℕ × Answer (Event A))) (b : Applying O S) : Type 0 where
      pub applied : b.writer ≡ fold with_told a.writer (all_told ps)
      pub passed_on : b.fault ≡ None → PassedOn polls a.stream ps b.stream
