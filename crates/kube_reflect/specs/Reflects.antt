-- A reflector: what it makes of the answers of its stream. (Crate: `reflector::reflector`.)
use Rattle.std.specs.Prelude.{◌≡◌, ◌⊎◌, ℕ, true, false, List, [], ◌∷◌, map, take, Option, Some, None, Ok, Err, if◌then◌else◌}
use Rattle.kube_meta.specs.declared.metadata.ObjectMeta.{ObjectMeta}
use Rattle.kube_meta.specs.declared.poll.Next.TheVariants.{Item, NotReady, Spent, End}
use Rattle.kube_meta.specs.Reference.{Reference}
use Rattle.kube_watch.specs.declared.event.Event.{Event}
use Rattle.kube_watch.specs.declared.event.Event.TheVariants.{Apply, Delete, Init, InitApply, InitDone}
use Rattle.kube_watch.specs.declared.stream.StreamFault.{StreamFault}
use Rattle.kube_watch.specs.declared.stream.StreamFault.TheVariants.{NoMemory, Unnamed}
use Rattle.kube_watch.specs.Events.{event_map}
use Rattle.kube_watch.specs.Streams.{Answer}
pub use Rattle.kube_watch.specs.Asking.{gives_something, Said, Polls, Asked, fault_in}
use Rattle.kube_reflect.specs.Cached.{has_name}
use Rattle.kube_reflect.specs.Writers.{Writing, is_lagged, with_offer, with_close, key_in}
pub use Rattle.kube_reflect.specs.Writers.{with_event}

-- an event that was applied, with the references that are to be offered before it is given
pub record Held (A : Type 0) : Type 0 where
  pub event : Event A
  pub references : List Reference

-- a writer with a stream S of events of shared objects A, what waits, and the fault that is answered from then on
pub record Reflecting (O A S : Type 0) : Type 0 where
  pub writer : Writing O
  pub stream : S
  pub held : Option (Held A)
  pub fault : Option StreamFault

-- the references that an event offers once it is applied: that of an Apply, and all that are stored at an InitDone
abbrev pub offers_of : {O : Type 0} → (O → Reference) → List (Reference × O) → Event O → List Reference
offers_of key store (Apply o) = key o ∷ []
offers_of key store (Delete o) = []
offers_of key store Init = []
offers_of key store (InitApply o) = []
offers_of key store InitDone = map (λ p. p.0) store

module _ {O : Type 0} where
  -- in order, as many as no live subscriber lags behind: the writer then, and the references that are left
  abbrev pub offered_in : Writing O → List Reference → Writing O × List Reference
  offered_in w [] = (w, [])
  offered_in w (r ∷ rs) = if is_lagged w then (w, r ∷ rs) else offered_in (with_offer w r) rs

module _ {A : Type 0} where
  -- an event is given once all its references are offered
  abbrev pub answer_with : Event A → List Reference → Answer (Event A)
  answer_with event [] = Ok (Item (Ok event))
  answer_with event (r ∷ rs) = Ok NotReady

  -- and is held until then
  abbrev pub held_with : Event A → List Reference → Option (Held A)
  held_with event [] = None
  held_with event (r ∷ rs) = Some (record { event = event; references = r ∷ rs })

module _ {O A : Type 0} where
  -- a writer offers the references of an event: all, or as far as there is room; or memory can't be had, and then so many of the first were offered so
  abbrev pub IsOffered : Writing O → Event A → List Reference → Answer (Event A) → Writing O → Option (Held A) → Type 0
  IsOffered w event rs answer w' held' =
      ((answer ≡ answer_with event (offered_in w rs).1) × (w' ≡ (offered_in w rs).0) × (held' ≡ held_with event (offered_in w rs).1))
      ⊎ ((answer ≡ Err NoMemory) × ((count : ℕ) × (w' ≡ (offered_in w (take count rs)).0)))

module _ {O A : Type 0} (value : A → O) (meta : O → ObjectMeta) where
  -- the references that an event offers, once it was applied
  abbrev pub event_offers : Writing O → Event A → List Reference
  event_offers w event = offers_of (key_in value meta w) w.kept.cache (event_map value event)

  -- an event came: it is applied, its references are offered, and it is given; or it has no name; or memory can't be had
  abbrev pub IsTaken : Writing O → Event A → Answer (Event A) → Writing O → Option (Held A) → Type 0
  IsTaken w event answer w' held' =
      ((has_name meta (event_map value event) ≡ true)
      × IsOffered (with_event value meta w event) event (event_offers (with_event value meta w event) event) answer w' held')
      ⊎ ((has_name meta (event_map value event) ≡ false) × (answer ≡ Err Unnamed) × (w' ≡ w) × (held' ≡ None))
      ⊎ ((answer ≡ Err NoMemory) × (w' ≡ w) × (held' ≡ None))

  -- what an answer of its stream makes of a reflector that holds nothing: the end closes its subscribers
  abbrev pub Answered : Writing O → Answer (Event A) → Answer (Event A) → Writing O → Option (Held A) → Type 0
  Answered w (Ok (Item (Ok event))) answer w' held' = IsTaken w event answer w' held'
  Answered w (Ok (Item (Err e))) answer w' held' = (answer ≡ Ok (Item (Err e))) × (w' ≡ w) × (held' ≡ None)
  Answered w (Ok NotReady) answer w' held' = (answer ≡ Ok NotReady) × (w' ≡ w) × (held' ≡ None)
  Answered w (Ok Spent) answer w' held' = (answer ≡ Ok Spent) × (w' ≡ w) × (held' ≡ None)
  Answered w (Ok End) answer w' held' = (answer ≡ Ok End) × (w' ≡ with_close w) × (held' ≡ None)
  Answered w (Err fault) answer w' held' = (answer ≡ Err fault) × (w' ≡ w) × (held' ≡ None)

  module _ {S : Type 0} (polls : S → ℕ → ℕ → Answer (Event A) → S → Type 0) where
    -- what it holds comes first, else its stream is asked
    abbrev pub Advanced : Option (Held A) → Reflecting O A S → ℕ → ℕ → Answer (Event A) → Reflecting O A S → Type 0
    Advanced (Some h) s now fuel answer s' = (s'.stream ≡ s.stream) × IsOffered s.writer h.event h.references answer s'.writer s'.held
    Advanced None s now fuel answer s' =
        (last : Answer (Event A)) × Asked polls now fuel s.stream last s'.stream × Answered s.writer last answer s'.writer s'.held

    -- a poll of a reflector: after a fault it answers only that
    abbrev pub Reflected : Option StreamFault → Reflecting O A S → ℕ → ℕ → Answer (Event A) → Reflecting O A S → Type 0
    Reflected (Some fault) s now fuel answer s' = (answer ≡ Err fault) × (s' ≡ s)
    Reflected None s now fuel answer s' = (s'.fault ≡ fault_in answer) × Advanced s.held s now fuel answer s'
