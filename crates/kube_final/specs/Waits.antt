-- Waiting for an object until a condition holds. V is the type of the object. (Crate: `await_condition`, `delete_and_finalize`.)
use Rattle.std.specs.Prelude.{◌≡◌, ◌⊎◌, ℕ, zero, suc, Bool, true, false, List, [], ◌∷◌, length, Option, Some, None, Result, Ok, Err}
use Rattle.std.specs.Arc.{arc_value}
use Rattle.std.specs.declared.sync.Arc.{Arc}
use Rattle.std.specs.declared.alloc.Global.{Global}
use Rattle.kube_meta.specs.declared.poll.Next.{Next}
use Rattle.kube_meta.specs.declared.poll.Next.TheVariants.{Item, NotReady, Spent, End}
use Rattle.kube_model.specs.declared.error.Error.{Error as WatcherError}
use Rattle.kube_model.specs.World.{Settings}
use Rattle.kube_model.specs.History.{Dated, Exchange}
use Rattle.kube_watch.specs.Stands.{StandsFor, exchanges_in, settings_in}
use Rattle.kube_watch.specs.Polls.{Api, Exchanged, Look, LostAfter, Tells, Waits, Quiet}
use Rattle.kube_watch.specs.Objects.{Found, Observing, answers_in, found_of, held_through, is_held, object_looks}
use Rattle.kube_final.specs.declared.wait.Error.{Error}
use Rattle.kube_final.specs.declared.wait.Error.TheVariants.{ProbeFailed}

-- what a condition may answer of an object, or of its absence
abbrev pub Says : Type 0 → Type 1
Says V = Option V → Bool → Type 0

-- an answer of the watch matches, or is an error: the wait is over
abbrev pub IsEnd : {V : Type 0} → Says V → Found V → Type 0
IsEnd says (Ok object) = says object true
IsEnd says (Err error) = Unit {0}

-- it doesn't match: the wait goes on
abbrev pub IsPassed : {V : Type 0} → Says V → Found V → Type 0
IsPassed says (Ok object) = says object false
IsPassed says (Err error) = ⊥

abbrev pub EndsAs : {V : Type 0} → Says V → Found V → Bool → Type 0
EndsAs says found true = IsEnd says found
EndsAs says found false = IsPassed says found

-- the answers were asked in order: the first that ends the wait is this one, and those behind it are left; or none ends it
abbrev pub FirstEnd : {V : Type 0} → Says V → List (Found V) → Option (Found V) → List (Found V) → Type 0
FirstEnd says [] (Some found) left = ⊥
FirstEnd says [] None left = left ≡ []
FirstEnd says (a ∷ ws) (Some found) left = ((a ≡ found) × IsEnd says a × (ws ≡ left)) ⊎ (IsPassed says a × FirstEnd says ws (Some found) left)
FirstEnd says (a ∷ ws) None left = IsPassed says a × FirstEnd says ws None left

-- what a wait answers after at most so many exchanges, where these answers wait already: what ends it, by the first exchange that tells of it; else that an exchange was not ready, or that so many were made
abbrev pub Waited : {V : Type 0} → Says V → List (Found V) → ℕ → List (Look (Found V)) → Next (Found V) → List (Found V) → Type 0
Waited says ws fuel [] (Item found) left = FirstEnd says ws (Some found) left
Waited says ws zero [] Spent left = FirstEnd says ws None left
Waited says ws (suc n) [] Spent left = ⊥
Waited says ws fuel [] NotReady left = ⊥
Waited says ws fuel [] End left = ⊥
Waited says ws zero (l ∷ ls) answer left = ⊥
Waited says ws (suc n) (Tells b bs ∷ ls) answer left = FirstEnd says ws None [] × Waited says (b ∷ bs) n ls answer left
Waited says ws (suc n) (Quiet ∷ ls) answer left = FirstEnd says ws None [] × Waited says [] n ls answer left
Waited says ws (suc n) (Waits ∷ ls) answer left = FirstEnd says ws None [] × (ls ≡ []) × (answer ≡ NotReady) × (left ≡ [])

-- a poll of a wait: the exchanges that it made of the watch, and its answer by them
pub record Awaited {A V : Type 0} (api : Api A V) (says : Says V) (now fuel : ℕ) (old : Observing A V) (answer : Next (Found V)) (new : Observing A V) : Type 0 where
  pub exchanges : List (Exchange V)
  pub exchanged : Exchanged api now old.watcher exchanges new.watcher
  pub answered : (ds : List (Dated V)) → StandsFor ds old.watcher
      → Waited says (answers_in old) fuel (object_looks (settings_in old.watcher) (is_held old) (exchanges_in ds) exchanges) answer (answers_in new)
  pub held : (ds : List (Dated V)) → StandsFor ds old.watcher → is_held new ≡ held_through (settings_in old.watcher) (is_held old) (exchanges_in ds) exchanges

-- after these answers that waited, each of these exchanges was ready, and nothing that they tell ends the wait
abbrev pub GoOn : {V : Type 0} → Says V → List (Found V) → Settings → Bool → List (Exchange V) → List (Exchange V) → Type 0
GoOn says ws settings held before xs = Waited says ws (length xs) (object_looks settings held before xs) Spent []

-- memory could not be had: nothing at all happened; or memory was wanting for one of so many calls of the watch, after exchanges with which the wait goes on
abbrev pub LostWait : {A V : Type 0} → Api A V → Says V → ℕ → ℕ → Observing A V → Observing A V → Type 0
LostWait api says now fuel old new =
    (new ≡ old) ⊎ LostAfter api now fuel (GoOn says (answers_in old) (settings_in old.watcher) (is_held old)) old.watcher new.watcher

-- the first of the answers that waited, or nothing waited
abbrev pub FirstOf : {V : Type 0} → List (Found V) → Option (Found V) → List (Found V) → Type 0
FirstOf ws (Some found) left = ws ≡ found ∷ left
FirstOf ws None left = (ws ≡ []) × (left ≡ [])

-- no exchange was made: the first of the answers that waited was taken, or nothing waits
pub record IsFirstTaken {A V : Type 0} (old : Observing A V) (found : Option (Found V)) (new : Observing A V) : Type 0 where
  pub api : new.watcher.api ≡ old.watcher.api
  pub config : new.watcher.config ≡ old.watcher.config
  pub stands : (ds : List (Dated V)) → StandsFor ds old.watcher → StandsFor ds new.watcher
  pub held : (ds : List (Dated V)) → StandsFor ds old.watcher → is_held new ≡ is_held old
  pub first : (ds : List (Dated V)) → StandsFor ds old.watcher → FirstOf (answers_in old) found (answers_in new)

-- no exchange was made: of the answers that waited, in order, the first that ends the wait was taken, with those before it, or all were taken and none ends it
pub record IsTaken {A V : Type 0} (says : Says V) (old : Observing A V) (found : Option (Found V)) (new : Observing A V) : Type 0 where
  pub api : new.watcher.api ≡ old.watcher.api
  pub config : new.watcher.config ≡ old.watcher.config
  pub stands : (ds : List (Dated V)) → StandsFor ds old.watcher → StandsFor ds new.watcher
  pub held : (ds : List (Dated V)) → StandsFor ds old.watcher → is_held new ≡ is_held old
  pub first : (ds : List (Dated V)) → StandsFor ds old.watcher → FirstEnd says (answers_in old) found (answers_in new)

-- one exchange was made, where nothing waited
pub record IsAskedOnce {A V : Type 0} (api : Api A V) (says : Says V) (now : ℕ) (old : Observing A V) (answer : Next (Found V)) (new : Observing A V) : Type 0 where
  pub exchanges : List (Exchange V)
  pub exchanged : Exchanged api now old.watcher exchanges new.watcher
  pub answered : (ds : List (Dated V)) → StandsFor ds old.watcher → answers_in old ≡ []
      → Waited says [] 1 (object_looks (settings_in old.watcher) (is_held old) (exchanges_in ds) exchanges) answer (answers_in new)
  pub held : (ds : List (Dated V)) → StandsFor ds old.watcher → is_held new ≡ held_through (settings_in old.watcher) (is_held old) (exchanges_in ds) exchanges

-- the answer of the wait by that of the watch: an error is one of the wait
abbrev pub probed : {V : Type 0} → Result (Option (Arc V Global)) Error → Found V
probed (Ok (Some object)) = Ok (Some (arc_value object))
probed (Ok None) = Ok None
probed (Err (ProbeFailed error)) = Err error

abbrev pub maybe_probed : {V : Type 0} → Option (Result (Option (Arc V Global)) Error) → Option (Found V)
maybe_probed None = None
maybe_probed (Some answer) = Some (probed answer)

abbrev pub maybe_found : {V : Type 0} → Option (Result (Option (Arc V Global)) WatcherError) → Option (Found V)
maybe_found None = None
maybe_found (Some answer) = Some (found_of answer)

abbrev pub next_probed : {V : Type 0} → Next (Result (Option (Arc V Global)) Error) → Next (Found V)
next_probed (Item answer) = Item (probed answer)
next_probed NotReady = NotReady
next_probed Spent = Spent
next_probed End = End

abbrev pub is_item : {T : Type 0} → Next T → Bool
is_item (Item x) = true
is_item NotReady = false
is_item Spent = false
is_item End = false
