-- A root that is fed by the settled objects of a stream whose events a writer has: what the writer stores, and what is still to be given of it. St is the type of such streams, V that of objects. (Crate: `reflector`, `Controller::for_stream`.)
use Rattle.std.specs.Prelude.{◌≡◌, ◌⊎◌, ℕ, List, [], ◌∷◌, ◌++◌, map, true, Contains, Option, Some, None, Ok, Err}
use Rattle.std.specs.List.{fold, AllByRecursion}
use Rattle.std.specs.Arc.{arc_value}
use Rattle.std.specs.declared.sync.Arc.{Arc}
use Rattle.std.specs.declared.alloc.Global.{Global}
use Rattle.kube_meta.specs.declared.metadata.ObjectMeta.{ObjectMeta}
use Rattle.kube_meta.specs.Keys.{key_of}
use Rattle.kube_meta.specs.Reference.{Reference}
use Rattle.kube_model.specs.World.{World}
use Rattle.kube_model.specs.History.{Dated, Exchange, Step, Taken, dated}
use Rattle.kube_model.specs.Settled.{IsSettledAt}
use Rattle.kube_model.specs.Store.{store_of}
use Rattle.kube_model.specs.Traces.{Made}
use Rattle.kube_watch.specs.declared.event.Event.{Event}
use Rattle.kube_watch.specs.Asking.{fault_in}
use Rattle.kube_watch.specs.Events.{event_map}
use Rattle.kube_watch.specs.Polls.{Api}
use Rattle.kube_watch.specs.Stands.{exchanges_in}
use Rattle.kube_watch.specs.Streams.{Answer}
use Rattle.kube_reflect.specs.Cached.{Kept, applied, nothing}
use Rattle.kube_reflect.specs.Reads.{object_at, objects}
use Rattle.kube_reflect.specs.Writers.{Writing}
use Rattle.kube_streams.specs.Adapts.{Adapting, Told, told_in}
use Rattle.kube_fed.specs.Fed.{RootFeeding}
use Rattle.kube_fed.specs.declared.feeding.Standing.TheVariants.{Open}
use Rattle.kube_step.specs.Calls.{ArePolled}
use Rattle.kube_alike.specs.Settles.{RequestsAlike, Settling, is_at_rest, objects_in}

-- what is kept after something was told: an event is applied, and an error changes nothing
abbrev pub after_told : {I V : Type 0} → (I → V) → (V → Reference) → Kept V → Told (Event I) → Kept V
after_told value key k (Ok event) = applied key k (event_map value event)
after_told value key k (Err e) = k

-- a writer keeps what these make of what it kept before, and its objects are of the same type
pub record HasApplied {I V : Type 0} (value : I → V) (meta : V → ObjectMeta) (old : Writing V) (ts : List (Told (Event I))) (new : Writing V) : Type 0 where
  pub kind : new.kind ≡ old.kind
  pub kept : new.kept ≡ fold (after_told value (λ o. key_of old.kind (meta o))) old.kept ts

-- each event that such a stream gives was applied to its writer, and nothing else was
abbrev pub AppliesAll : {St I V : Type 0} → (I → V) → (V → ObjectMeta) → (St → Writing V) → (St → ℕ → ℕ → Answer (Event I) → St → Type 0) → Type 0
AppliesAll {St = St} {I = I} value meta writer_of polls =
    (a : St) (now fuel : ℕ) (answer : Answer (Event I)) (b : St) → polls a now fuel answer b → fault_in answer ≡ None → HasApplied value meta (writer_of a) (told_in answer) (writer_of b)

-- what feeds such a root: the settled objects of the stream
abbrev pub SettlingOf : Type 0 → Type 0 → Type 0
SettlingOf St V = Adapting St (List (Arc V Global)) (Arc V Global)

-- the objects that wait to be given, in order
abbrev pub coming : {St V : Type 0} → RootFeeding (SettlingOf St V) → List V
coming root = map arc_value (objects_in root.feeding.stream.waiting)

module _ {St V : Type 0} (writer_of : St → Writing V) where
  -- the writer of a root's stream
  abbrev pub writer_in : RootFeeding (SettlingOf St V) → Writing V
  writer_in root = writer_of root.feeding.stream.stream

  -- what it stores
  abbrev pub stored_by : RootFeeding (SettlingOf St V) → List (Reference × V)
  stored_by root = (writer_in root).kept.cache

  -- such a root, whose stream has not been polled and whose writer has nothing; its objects have the keys of the controller's
  pub record IsNewRoot (meta : V → ObjectMeta) (key : V → Reference) (root : RootFeeding (SettlingOf St V)) : Type 0 where
    pub is_open : root.feeding.standing ≡ Open
    pub given : root.feeding.stream.waiting ≡ []
    pub listed : root.feeding.stream.adapt ≡ []
    pub sound : root.feeding.stream.fault ≡ None
    pub empty : (writer_in root).kept ≡ nothing
    pub keyed : key ≡ (λ o. key_of (writer_in root).kind (meta o))

  -- each of these was taken as this store has it
  abbrev pub AreTakenFrom : List (Reference × V) → List (Taken V) → Type 0
  AreTakenFrom store ts = AllByRecursion (λ t. t.object ≡ object_at store t.message.reference) ts

  -- turns of a controller with such a root, one after another. In each the sources were asked, and what it took it found as the root's writer stores it then: the store is published before it is read
  abbrev pub ArePublishedTurns : {S : Type 0} → (RootFeeding (SettlingOf St V) → List (Dated V) → ℕ → Exchange V → RootFeeding (SettlingOf St V) → Type 0)
      → (S → ℕ → List (Dated V) → ℕ → Exchange V → S → Type 0) → List (Dated V) → RootFeeding (SettlingOf St V) → S → List (Made V) → RootFeeding (SettlingOf St V) → S → Type 0
  ArePublishedTurns root_polls related_polls before root related [] root' related' = (root' ≡ root) × (related' ≡ related)
  ArePublishedTurns {S = S} root_polls related_polls before root related (m ∷ ms) root' related' =
      (r : RootFeeding (SettlingOf St V)) × (s : S) × ArePolled root_polls related_polls before root related (dated m.0.at m.0.exchanges) r s
      × AreTakenFrom (stored_by r) m.0.taken
      × ArePublishedTurns root_polls related_polls (before ++ dated m.0.at m.0.exchanges) r s ms root' related'

  -- each object that the writer stores was last handed over as it stands, or its key has an entry; or it is still to be given
  abbrev pub IsSettledOrComing : {B : Type 0} → World V B → List (Step V) → RootFeeding (SettlingOf St V) → Type 0
  IsSettledOrComing w h root = AllByRecursion (λ o. IsSettledAt w h o ⊎ Contains (coming root) o) (objects (stored_by root))

-- after these turns of a controller with such a root the root requested what a watched one requests; and where it was not ready at last, each object that a watched root stores of what the API was asked was last handed over as it stands, or its key has an entry
pub record IsReconciled {A V B : Type 0} (meta : V → ObjectMeta) (api : Api A V) (w : World V B) (h : List (Step V)) (old : RootFeeding (Settling A V)) (ds : List (Dated V)) (new : RootFeeding (Settling A V)) : Type 0 where
  pub alike : RequestsAlike meta api w old ds new
  pub settled : is_at_rest ds ≡ true → AllByRecursion (IsSettledAt w h) (store_of w.key (exchanges_in alike.asked))
