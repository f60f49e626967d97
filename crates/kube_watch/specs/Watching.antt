-- What contracts see of a watcher. A is the type of its API, V that of the objects.
use Rattle.std.specs.Prelude.{◌≡◌, ℕ, Bool, List, [], ◌∷◌, ◌++◌, map, Option, Some, None, Result, Ok, Err}
use Rattle.std.specs.Arc.{arc_value}
use Rattle.std.specs.declared.sync.Arc.{Arc}
use Rattle.std.specs.declared.alloc.Global.{Global}
use Rattle.kube_meta.specs.declared.poll.Next.{Next}
use Rattle.kube_meta.specs.declared.poll.Next.TheVariants.{Item, NotReady, Spent, End}
use Rattle.kube_model.specs.declared.error.Error.{Error}
use Rattle.kube_watch.specs.declared.config.Config.{Config}
use Rattle.kube_watch.specs.declared.event.Event.{Event}
use Rattle.kube_watch.specs.declared.state.State.{State}
use Rattle.kube_watch.specs.Events.{event_map}

-- what a watcher tells: an event or an error
abbrev pub Told : Type 0 → Type 0
Told V = Result (Event V) Error

-- the same of an object that is shared
abbrev pub told_of : {V : Type 0} → Result (Event (Arc V Global)) Error → Told V
told_of (Ok event) = Ok (event_map arc_value event)
told_of (Err error) = Err error

-- the error, if any, in a list
abbrev pub failed : {V : Type 0} → Option Error → List (Told V)
failed None = []
failed (Some error) = Err error ∷ []

-- events, and the error after them
abbrev pub all_told : {V : Type 0} → List (Event V) → Option Error → List (Told V)
all_told events error = map Ok events ++ failed error

-- its API, its configuration, how far it has come, since when it is silent, what it has to tell before it asks again, and whether a call of it once had no memory
pub record Watching (A V : Type 0) : Type 0 where
  pub api : A
  pub config : Config
  pub state : State
  pub silent_since : Option ℕ
  pub waiting : List (Told V)
  pub is_spent : Bool

-- an answer of a poll, with objects that are shared
abbrev pub next_told : {V : Type 0} → Next (Result (Event (Arc V Global)) Error) → Next (Told V)
next_told (Item told) = Item (told_of told)
next_told NotReady = NotReady
next_told Spent = Spent
next_told End = End

-- the first of what waits was taken, or nothing waits
abbrev pub TakesFirst : {A V : Type 0} → Watching A V → Option (Result (Event (Arc V Global)) Error) → Watching A V → Type 0
TakesFirst old (Some told) new = (old.waiting ≡ told_of told ∷ new.waiting) × (new ≡ record old { waiting = new.waiting })
TakesFirst old None new = (old.waiting ≡ []) × (new ≡ old)
