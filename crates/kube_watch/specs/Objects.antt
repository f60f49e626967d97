-- What is answered of one object, by what its watcher tells. V is the type of the object. (Crate: `watch_object`.)
use Rattle.std.specs.Prelude.{◌≡◌, ◌⊎◌, ℕ, Bool, true, false, List, [], ◌∷◌, ◌++◌, length, replicate, Option, Some, None, Result, Ok, Err, codes}
use Rattle.std.specs.Arc.{arc_value}
use Rattle.std.specs.declared.sync.Arc.{Arc}
use Rattle.std.specs.declared.alloc.Global.{Global}
use Rattle.kube_meta.specs.declared.poll.Next.{Next}
use Rattle.kube_meta.specs.declared.poll.Next.TheVariants.{Item, NotReady, Spent, End}
use Rattle.kube_model.specs.declared.error.Error.{Error}
use Rattle.kube_model.specs.World.{Settings, default_settings}
use Rattle.kube_model.specs.History.{Dated, Exchange}
use Rattle.kube_watch.specs.declared.event.Event.TheVariants.{Apply, Delete, Init, InitApply, InitDone}
use Rattle.kube_watch.specs.Stands.{StandsFor, exchanges_in, row_of, settings_in}
use Rattle.kube_watch.specs.Watching.{Told, Watching}
use Rattle.kube_watch.specs.Polls.{Look, Quiet, look_of, polled, told_by, Api, Exchanged, LostAfter}

-- the object, or that it is not there, or an error
abbrev pub Found : Type 0 → Type 0
Found V = Result (Option V) Error

-- the same of an object that is shared
abbrev pub found_of : {V : Type 0} → Result (Option (Arc V Global)) Error → Found V
found_of (Ok (Some object)) = Ok (Some (arc_value object))
found_of (Ok None) = Ok None
found_of (Err error) = Err error

-- whether the list that began last held the object
abbrev pub held_after : {V : Type 0} → Bool → Told V → Bool
held_after held (Ok Init) = false
held_after held (Ok (InitApply object)) = true
held_after held (Ok (Apply object)) = held
held_after held (Ok (Delete object)) = held
held_after held (Ok InitDone) = held
held_after held (Err error) = held

-- what is answered: the object where it is there or changed; that it is not there where it was deleted, and at the end of a list that did not hold it
abbrev pub answer_to : {V : Type 0} → Bool → Told V → Option (Found V)
answer_to held (Ok (Apply object)) = Some (Ok (Some object))
answer_to held (Ok (Delete object)) = Some (Ok None)
answer_to held (Ok Init) = None
answer_to held (Ok (InitApply object)) = Some (Ok (Some object))
answer_to true (Ok InitDone) = None
answer_to false (Ok InitDone) = Some (Ok None)
answer_to held (Err error) = Some (Err error)

abbrev pub held_by : {V : Type 0} → Bool → List (Told V) → Bool
held_by held [] = held
held_by held (t ∷ ts) = held_by (held_after held t) ts

abbrev pub with_answer : {V : Type 0} → Option (Found V) → List (Found V) → List (Found V)
with_answer None answers = answers
with_answer (Some answer) answers = answer ∷ answers

-- the answers to all of these, in order
abbrev pub answers_to : {V : Type 0} → Bool → List (Told V) → List (Found V)
answers_to held [] = []
answers_to held (t ∷ ts) = with_answer (answer_to held t) (answers_to (held_after held t) ts)

-- what each of these exchanges comes to, after those before
abbrev pub object_looks : {V : Type 0} → Settings → Bool → List (Exchange V) → List (Exchange V) → List (Look (Found V))
object_looks settings held before [] = []
object_looks settings held before (x ∷ xs) =
    look_of (answers_to held (told_by (row_of settings before x))) x.answer
    ∷ object_looks settings (held_by held (told_by (row_of settings before x))) (before ++ x ∷ []) xs

-- whether the list that began last held the object, after these exchanges
abbrev pub held_through : {V : Type 0} → Settings → Bool → List (Exchange V) → List (Exchange V) → Bool
held_through settings held before [] = held
held_through settings held before (x ∷ xs) = held_through settings (held_by held (told_by (row_of settings before x))) (before ++ x ∷ []) xs

-- a watcher of one object, and whether the list that began last held it, by what was taken of the watcher so far
pub record Observing (A V : Type 0) : Type 0 where
  pub watcher : Watching A V
  pub held : Bool

-- the answers to what waits
abbrev pub answers_in : {A V : Type 0} → Observing A V → List (Found V)
answers_in o = answers_to o.held o.watcher.waiting

-- whether that list held it, by what waits too
abbrev pub is_held : {A V : Type 0} → Observing A V → Bool
is_held o = held_by o.held o.watcher.waiting

-- an answer of a poll, with an object that is shared
abbrev pub next_found : {V : Type 0} → Next (Result (Option (Arc V Global)) Error) → Next (Found V)
next_found (Item found) = Item (found_of found)
next_found NotReady = NotReady
next_found Spent = Spent
next_found End = End

-- the first answer to what waits, and none where there is none
abbrev pub IsFirstAnswer : {A V : Type 0} → Observing A V → Option (Result (Option (Arc V Global)) Error) → Observing A V → Type 0
IsFirstAnswer old (Some found) new = answers_in old ≡ found_of found ∷ answers_in new
IsFirstAnswer old None new = (answers_in old ≡ []) × (new.watcher.waiting ≡ [])

-- it was taken, with what waited before it
pub record TakesAnswer {A V : Type 0} (old : Observing A V) (found : Option (Result (Option (Arc V Global)) Error)) (new : Observing A V) : Type 0 where
  pub first : IsFirstAnswer old found new
  pub watcher : new.watcher ≡ record old.watcher { waiting = new.watcher.waiting }
  pub held : is_held new ≡ is_held old

-- what a poll did: its answer, and the answers to what waits then, are those that its exchanges come to
pub record PolledObject {A V : Type 0} (api : Api A V) (now fuel : ℕ) (old : Observing A V) (answer : Next (Found V)) (new : Observing A V) : Type 0 where
  pub exchanges : List (Exchange V)
  pub exchanged : Exchanged api now old.watcher exchanges new.watcher
  pub answered : (ds : List (Dated V)) → StandsFor ds old.watcher
      → polled (answers_in old) fuel (object_looks (settings_in old.watcher) (is_held old) (exchanges_in ds) exchanges) ≡ Some (answer, answers_in new)
  pub held : (ds : List (Dated V)) → StandsFor ds old.watcher → is_held new ≡ held_through (settings_in old.watcher) (is_held old) (exchanges_in ds) exchanges

-- each of these exchanges, after those before, was ready and gave nothing to answer
abbrev pub GiveNothing : {V : Type 0} → Settings → Bool → List (Exchange V) → List (Exchange V) → Type 0
GiveNothing settings held before xs = object_looks settings held before xs ≡ replicate (length xs) Quiet

-- memory could not be had: nothing at all happened; or no answer waited, and memory was wanting for one of so many calls, after exchanges that were ready and gave nothing to answer
abbrev pub LostObject : {A V : Type 0} → Api A V → ℕ → ℕ → Observing A V → Observing A V → Type 0
LostObject api now fuel old new =
    (new ≡ old) ⊎ ((answers_in old ≡ []) × LostAfter api now fuel (GiveNothing (settings_in old.watcher) (is_held old)) old.watcher new.watcher)

-- a watcher of the object of this name that has made no call
pub record IsOpened {A V : Type 0} (opened : A) (name : List ℕ) (o : Observing A V) : Type 0 where
  pub api : o.watcher.api ≡ opened
  pub settings : settings_in o.watcher ≡ record default_settings { fields = Some (codes "metadata.name=" ++ name) }
  pub waiting : o.watcher.waiting ≡ []
  pub held : o.held ≡ false
  pub stands : StandsFor [] o.watcher
