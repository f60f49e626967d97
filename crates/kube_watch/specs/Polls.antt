-- What a poll of a watcher makes of it, by the exchanges that it makes. V is the type of objects. (Crate: `watcher`, as a stream.)
use Rattle.std.specs.Prelude.{◌≡◌, ◌⊎◌, ◌<◌, ℕ, zero, suc, Bool, not, List, [], ◌∷◌, ◌++◌, map, length, replicate, Option, Some, None, Ok, Err, IsTrue, true, false, if◌then◌else◌}
use Rattle.std.specs.declared.sync.Arc.{Arc}
use Rattle.std.specs.declared.alloc.Global.{Global}
use Rattle.kube_meta.specs.declared.metadata.ObjectMeta.{ObjectMeta}
use Rattle.kube_meta.specs.declared.poll.Next.{Next}
use Rattle.kube_meta.specs.declared.poll.Next.TheVariants.{Item, NotReady, Spent}
use Rattle.kube_model.specs.declared.call.Answer.{Answer as CallAnswer}
use Rattle.kube_model.specs.declared.call.Answer.TheVariants.{NotReady as Unready}
use Rattle.kube_model.specs.World.{Settings, Watched, window_of}
use Rattle.kube_model.specs.History.{Dated, Exchange}
use Rattle.kube_model.specs.Owed.{owed, is_next, is_not_ready}
use Rattle.kube_model.specs.Fits.{answers, idle_fits, is_window_over, silent_since, TextsFit}
use Rattle.kube_model.specs.Raw.{Raw, grown, FaultRose}
use Rattle.kube_model.specs.Recorded.{IsRecorded}
use Rattle.kube_api.specs.declared.api.ApiMode as api_mode
use Rattle.kube_watch.specs.Calls.{IsAskedOnce, is_fault_answer, version_of}
use Rattle.kube_watch.specs.Stands.{StandsFor, exchanges_in, row_of, settings_in}
use Rattle.kube_watch.specs.Table.{Row}
use Rattle.kube_watch.specs.declared.event.Event.{Event}
use Rattle.kube_watch.specs.declared.stream.StreamFault.{StreamFault}
use Rattle.kube_watch.specs.declared.stream.StreamFault.TheVariants.{NoMemory, Unnamed}
use Rattle.kube_watch.specs.Streams.{Answer}
use Rattle.kube_watch.specs.Watching.{Told, Watching, all_told, next_told}

-- what an exchange comes to for a poll: it tells something, the rest after the first; or it was not ready; or it tells nothing
pub data Look (T : Type 0) : Type 0 where
  Tells : (first : T) → (rest : List T) → Look T
  Waits : Look T
  Quiet : Look T

abbrev pub look_of : {T : Type 0} → List T → CallAnswer → Look T
look_of (t ∷ ts) answer = Tells t ts
look_of [] Unready = Waits
look_of [] answer = Quiet

-- what is answered after at most so many exchanges, and what waits then: the first that is told, by the first exchange that tells something; nothing where an exchange was not ready. None where no poll makes these exchanges
abbrev pub answered_by : {T : Type 0} → ℕ → List (Look T) → Option (Next T × List T)
answered_by zero [] = Some (Spent, [])
answered_by zero (l ∷ ls) = None
answered_by (suc n) [] = None
answered_by (suc n) (Quiet ∷ ls) = answered_by n ls
answered_by (suc n) (Tells first rest ∷ []) = Some (Item first, rest)
answered_by (suc n) (Waits ∷ []) = Some (NotReady, [])
answered_by (suc n) (l ∷ m ∷ ls) = None

-- the same where something waits already: then no exchange is made
abbrev pub polled : {T : Type 0} → List T → ℕ → List (Look T) → Option (Next T × List T)
polled (t ∷ ts) fuel [] = Some (Item t, ts)
polled (t ∷ ts) fuel (l ∷ ls) = None
polled [] fuel ls = answered_by fuel ls

-- what an exchange tells: its events, then its error
abbrev pub told_by : {V : Type 0} → Row V → List (Told V)
told_by row = all_told row.events row.error

-- what each of these exchanges comes to, after those before
abbrev pub looks : {V : Type 0} → Settings → List (Exchange V) → List (Exchange V) → List (Look (Told V))
looks settings before [] = []
looks settings before (x ∷ xs) = look_of (told_by (row_of settings before x)) x.answer ∷ looks settings (before ++ x ∷ []) xs

-- an exchange that a watcher makes now, after these
pub record IsNext {V : Type 0} (settings : Settings) (ds : List (Dated V)) (now : ℕ) (x : Exchange V) : Type 0 where
  pub owes : x.call ≡ owed (Watched settings) (exchanges_in ds)
  pub answered : IsTrue (answers x.call x.answer)
  pub texts : TextsFit x.answer
  pub idle : IsTrue (is_next x.call) → IsTrue (idle_fits (is_window_over (window_of (Watched settings)) (silent_since ds) now) x.answer)
  pub error : x.error ≡ (row_of settings (exchanges_in ds) x).error

abbrev pub dated_now : {V : Type 0} → ℕ → Exchange V → Dated V
dated_now now x = record { at = now; exchange = x }

abbrev pub AreNext : {V : Type 0} → Settings → List (Dated V) → ℕ → List (Exchange V) → Type 0
AreNext settings ds now [] = Unit {0}
AreNext settings ds now (x ∷ xs) = IsNext settings ds now x × AreNext settings (ds ++ dated_now now x ∷ []) now xs

-- what is asked of an API: what a call makes of it, what it tells, how often it failed, and the version of an object
pub record Api (A V : Type 0) : Type 1 where
  pub moves : A → ℕ → Raw V → A → Type 0
  pub talk : A → Option (List (Raw V))
  pub faults : A → ℕ
  pub version : V → Option (List ℕ)

-- what is asked of one that says so of itself, with objects of which this are the metadata
abbrev pub api_in : {A V D : Type 0} → api_mode.Ghosts A V D → (V → ObjectMeta) → Api A V
api_in api meta_of = record { moves = api.moves; talk = api.talk; faults = api.faults; version = version_of meta_of }

module _ {A V : Type 0} (api : Api A V) (settings : Settings) (now : ℕ) where
  -- an exchange was made by one call of the API, from which it is recorded
  pub record IsCall (old : A) (x : Exchange V) (new : A) : Type 0 where
    pub raw : Raw V
    pub recorded : IsRecorded api.version settings raw x
    pub told : api.talk new ≡ grown (api.talk old) raw
    pub moved : api.moves old now raw new
    pub rose : FaultRose (is_fault_answer x.answer) (api.faults old) (api.faults new)

  -- so were these, one after another
  abbrev pub AreCalls : A → List (Exchange V) → A → Type 0
  AreCalls old [] new = new ≡ old
  AreCalls old (x ∷ xs) new = (middle : A) × IsCall old x middle × AreCalls middle xs new

-- a watcher made these exchanges: one after another, each as it was owed, and now it stands for them too
pub record Exchanged {A V : Type 0} (api : Api A V) (now : ℕ) (old : Watching A V) (xs : List (Exchange V)) (new : Watching A V) : Type 0 where
  pub calls : AreCalls api (settings_in old) now old.api xs new.api
  pub made : (ds : List (Dated V)) → StandsFor ds old → AreNext (settings_in old) ds now xs
  pub stands : (ds : List (Dated V)) → StandsFor ds old → StandsFor (ds ++ map (dated_now now) xs) new
  pub config : new.config ≡ old.config

-- what a poll did: its answer, and what waits then, are those that its exchanges come to
pub record Polled {A V : Type 0} (api : Api A V) (now fuel : ℕ) (old : Watching A V) (answer : Next (Told V)) (new : Watching A V) : Type 0 where
  pub exchanges : List (Exchange V)
  pub exchanged : Exchanged api now old exchanges new
  pub answered : (ds : List (Dated V)) → StandsFor ds old → polled old.waiting fuel (looks (settings_in old) (exchanges_in ds) exchanges) ≡ Some (answer, new.waiting)

-- memory was wanting for one of so many calls: these exchanges were made before it, one after another, and this is so of them after any that the watcher stood for; after them the talk grew at most by the call that is then owed
pub record LostAfter {A V : Type 0} (api : Api A V) (now fuel : ℕ) (is_so : List (Exchange V) → List (Exchange V) → Type 0) (old new : Watching A V) : Type 0 where
  pub exchanges : List (Exchange V)
  pub reached : A
  pub few : length exchanges < fuel
  pub calls : AreCalls api (settings_in old) now old.api exchanges reached
  pub made : (ds : List (Dated V)) → StandsFor ds old → AreNext (settings_in old) ds now exchanges
  pub told : (ds : List (Dated V)) → StandsFor ds old → is_so (exchanges_in ds) exchanges
  pub once : (ds : List (Dated V)) → StandsFor ds old
      → IsAskedOnce (settings_in old) (owed (Watched (settings_in old)) (exchanges_in ds ++ exchanges)) (api.talk reached) (api.talk new.api)

-- each of these exchanges, after those before, was ready and told nothing
abbrev pub AreQuiet : {V : Type 0} → Settings → List (Exchange V) → List (Exchange V) → Type 0
AreQuiet settings before xs = looks settings before xs ≡ replicate (length xs) Quiet

-- memory could not be had: nothing at all happened; or nothing waited, and memory was wanting for one of so many calls, after exchanges that were ready and told nothing
abbrev pub Lost : {A V : Type 0} → Api A V → ℕ → ℕ → Watching A V → Watching A V → Type 0
Lost api now fuel old new = (new ≡ old) ⊎ ((old.waiting ≡ []) × LostAfter api now fuel (AreQuiet (settings_in old)) old new)

-- one exchange was made, which is all that there is to tell, and was ready or not
pub record Filled {A V : Type 0} (api : Api A V) (now : ℕ) (old : Watching A V) (was_ready : Bool) (new : Watching A V) : Type 0 where
  pub exchange : Exchange V
  pub call : IsCall api (settings_in old) now old.api exchange new.api
  pub made : (ds : List (Dated V)) → StandsFor ds old → IsNext (settings_in old) ds now exchange
  pub told : (ds : List (Dated V)) → StandsFor ds old → new.waiting ≡ told_by (row_of (settings_in old) (exchanges_in ds) exchange)
  pub ready : was_ready ≡ not (is_not_ready exchange.answer)
  pub stands : (ds : List (Dated V)) → StandsFor ds old → StandsFor (ds ++ dated_now now exchange ∷ []) new
  pub config : new.config ≡ old.config

-- the fault that a watcher answers from then on: that there was no memory
abbrev pub fault_of : {A V : Type 0} → Watching A V → Option StreamFault
fault_of w = if w.is_spent then Some NoMemory else None

-- what a poll did, as that of a stream: a watcher that had no memory is spent, and a spent one stays as it is
abbrev pub IsPolled : {A V : Type 0} → Api A V → ℕ → ℕ → Watching A V → Answer (Event (Arc V Global)) → Watching A V → Type 0
IsPolled api now fuel old (Ok answer) new = (old.is_spent ≡ false) × Polled api now fuel old (next_told answer) new
IsPolled api now fuel old (Err NoMemory) new = (new.is_spent ≡ true) × (old.is_spent ≡ true → new ≡ old) × Lost api now fuel old new
IsPolled api now fuel old (Err Unnamed) new = ⊥
