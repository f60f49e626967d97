-- When events of a core are legal: moments never fall, and each reply is the definitions' reply to the events before it. O is the type of objects.
use Rattle.std.specs.Prelude.{◌≡◌, ◌⊎◌, ◌≤◌, ℕ, zero, suc, Bool, true, false, not, List, [], ◌∷◌, ◌++◌}
use Rattle.std.specs.List.{list_any}
use Rattle.kube_model.specs.declared.call.Call.{Call}
use Rattle.kube_model.specs.declared.call.Call.TheVariants.{List as ListCall, Watch, Next, Stream}
use Rattle.kube_model.specs.World.{Watched}
use Rattle.kube_model.specs.History.{Exchange, Dated, exchanges_of}
use Rattle.kube_model.specs.Owed.{owed}
use Rattle.kube_model.specs.Fits.{IsAnswered, IsOfSource}
use Rattle.kube_model.specs.Named.{AreNamed}
use Rattle.kube_model.specs.Takes.{runs}
use Rattle.kube_history.specs.CoreWorld.{CoreWorld, world_of}
use Rattle.kube_history.specs.CoreEvents.{CoreEvent, Answered, Requested, Reloaded, Finished, Settled, Took, Shut, moment_of, starting, answers_in, clock_of, running_of, next_taken}

abbrev pub is_stream : Call → Bool
is_stream (ListCall token) = false
is_stream (Watch version initial) = false
is_stream Next = false
is_stream Stream = true

module _ {O : Type 0} where
  -- whether all of these polled a stream
  abbrev pub are_streams : List (Exchange O) → Bool
  are_streams xs = not (list_any (λ x. not (is_stream x.call)) xs)

  -- a call that a watcher may owe after these exchanges, by either form of start
  abbrev pub MayOwe : List (Exchange O) → Call → Type 0
  MayOwe xs call = (by_watch : Bool) × (call ≡ owed (Watched (starting by_watch)) xs)

  abbrev pub RelatedMayOwe : Bool → List (Exchange O) → Call → Type 0
  RelatedMayOwe streams [] call = MayOwe [] call ⊎ (call ≡ Stream)
  RelatedMayOwe true (x ∷ xs) call = call ≡ Stream
  RelatedMayOwe false (x ∷ xs) call = MayOwe (x ∷ xs) call

  -- a call that a source may owe: the root is watched; a related source without exchanges may be a stream as well, and one whose exchanges all polled a stream is one
  abbrev pub SourceMayOwe : ℕ → List (Exchange O) → Call → Type 0
  SourceMayOwe zero xs call = MayOwe xs call
  SourceMayOwe (suc place) xs call = RelatedMayOwe (are_streams xs) xs call

module _ {O : Type 0} (core : CoreWorld O) where
  -- an exchange that a source may have after its own: it makes a call that the source may owe, its answer, objects and requests fit, and its objects have names. No idle window is told to a core
  pub record MayFollow (own : List (Exchange O)) (x : Exchange O) : Type 0 where
    pub owes : SourceMayOwe x.source own x.call
    pub answer : IsAnswered own x
    pub content : IsOfSource (world_of core) x.source own x
    pub named : AreNamed (world_of core) own x

  abbrev pub MayBeAnswered : List (Dated O) → Exchange O → Type 0
  MayBeAnswered before x = MayFollow (exchanges_of x.source before) x

  abbrev pub IsReply : List (CoreEvent O) → CoreEvent O → Type 0
  IsReply before (Answered at x) = MayBeAnswered (answers_in before) x
  IsReply before (Requested at reference) = Unit {0}
  IsReply before (Reloaded at) = Unit {0}
  IsReply before (Finished at reference ok action ran) = ran ≡ runs (running_of before) reference
  IsReply before (Settled at) = Unit {0}
  IsReply before (Took at taken) = taken ≡ next_taken core before
  IsReply before (Shut at) = Unit {0}

  pub record IsLegal (before : List (CoreEvent O)) (e : CoreEvent O) : Type 0 where
    pub moment : clock_of before ≤ moment_of e
    pub reply : IsReply before e

  -- each of these is legal after those before it
  abbrev pub AreLegal : List (CoreEvent O) → List (CoreEvent O) → Type 0
  AreLegal before [] = Unit {0}
  AreLegal before (e ∷ es) = IsLegal before e × AreLegal (before ++ e ∷ []) es
