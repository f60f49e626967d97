-- What a stage on which a life is played holds after the steps so far: a server with the object, what was seen of it, the decisions, and the patches that were sent. Of all this the clauses of public calls show the object and what a server answered.
use Rattle.std.specs.Prelude.{◌≡◌, ◌⊎◌, ℕ, ◌<◌, ◌^◌, Bool, true, false, ◌&&◌, is_some, List, [], ◌∷◌, ◌++◌, length, map, slice_get, Option, Some, None, codes}
use Rattle.std.specs.Arc.{arc_value}
use Rattle.std.specs.declared.alloc.Global.{Global}
use Rattle.std.specs.declared.sync.Arc.{Arc}
use Rattle.serde_json.specs.Data.{Data, null, no_members}
use Rattle.kube_meta.specs.declared.dynamic.DynamicObject.{DynamicObject}
use Rattle.kube_meta.specs.Reading.{ObjectData, seen_object, unless_empty}
use Rattle.kube_meta.specs.Reference.{Reference}
use Rattle.kube_meta.specs.Resources.{dynamic_reference, no_metadata}
use Rattle.kube_meta.specs.Writing.{content_members}
use Rattle.kube_api.specs.declared.patch.Patch.{Patch}
use Rattle.kube_api.specs.declared.patch.PatchRefusal.{PatchRefusal}
use Rattle.kube_api.specs.declared.patch.PatchRefusal.TheVariants.{NoMemory}
use Rattle.kube_api.specs.Patches.{Operation, operation_of}
use Rattle.std.specs.declared.vec.Vec.{Vec}
use Rattle.kube_server.specs.History.{Key, State, state_of as objects_after}
use Rattle.kube_server.specs.Servers.{ServerState, meta_of, next_revision, reference_key, held, IsHeldAnd, IsPatched, patch_change, IsPatchRefusal}
use Rattle.kube_final.specs.declared.finalizer.Decision.{Decision}
use Rattle.kube_final.specs.declared.finalizer.Decision.TheVariants.{Apply, Cleanup, AddFirst, AddMore, Nothing, Unnamed}
use Rattle.kube_final.specs.declared.life.LifeState.{LifeState}
use Rattle.kube_final.specs.Finalizers.{finalizers_in, patch_on}
use Rattle.kube_final.specs.Lives.{Decided, Past, decided_on, is_empty}
use Rattle.kube_final.specs.declared.play.Made.{Made}
use Rattle.kube_final.specs.declared.play.Stage.{Stage}

-- ---- the object

abbrev pub object_name : List ℕ
object_name = codes "object"

abbrev pub object_key : Key
object_key = record { namespace = None; name = object_name }

-- of its metadata the object has a name, a uid, a version, finalizers, and once it is being deleted a timestamp
abbrev pub plain_object : List ℕ → List ℕ → Data → Option (List ℕ) → List (List ℕ) → ObjectData
plain_object uid version content deleted names = record {
  types = None;
  metadata = record {
    name = Some object_name;
    namespace = None;
    uid = Some uid;
    resource_version = Some version;
    deletion_timestamp = deleted;
    generation = None;
    labels = None;
    annotations = None;
    finalizers = unless_empty (Some names);
    owner_references = None;
  };
  content = content;
}

-- before it is put on the server
abbrev pub new_object : ObjectData
new_object = record { types = None; metadata = record no_metadata { name = Some object_name }; content = null }

-- such an object stands as a state says
pub record IsSeenAs (o : ObjectData) (state : LifeState) : Type 0 where
  pub uid : List ℕ
  pub version : List ℕ
  pub content : Data
  pub deleted : Option (List ℕ)
  pub empty : content_members content ≡ no_members
  pub deleting : is_some deleted ≡ state.deleting
  pub is : o ≡ plain_object uid version content deleted state.finalizers

-- ---- the server

-- it has that object alone, and none where it has gone
abbrev pub IsHeldAs : State DynamicObject → LifeState → Type 0
IsHeldAs [] state = state.gone ≡ true
IsHeldAs (p ∷ []) state = (p.0 ≡ object_key) × (state.gone ≡ false) × IsSeenAs (seen_object p.1) state
IsHeldAs (p ∷ q ∷ ps) state = ⊥

pub record Serves (server : ServerState) (r : Reference) (state : LifeState) : Type 0 where
  pub kind : server.kind ≡ r.kind
  pub key : reference_key r ≡ object_key
  pub formed : state.gone ≡ (state.deleting && is_empty state.finalizers)
  pub holds : IsHeldAs (objects_after meta_of server.changes) state

-- ---- what was seen, decided and sent

abbrev pub IsSight : Option (Arc DynamicObject Global) → LifeState → Type 0
IsSight None state = state.gone ≡ true
IsSight (Some a) state = (state.gone ≡ false) × IsSeenAs (seen_object (arc_value a)) state

abbrev pub AreSights : List (Option (Arc DynamicObject Global)) → List LifeState → Type 0
AreSights [] [] = Unit {0}
AreSights [] (s ∷ ss) = ⊥
AreSights (o ∷ os) [] = ⊥
AreSights (o ∷ os) (s ∷ ss) = IsSight o s × AreSights os ss

-- the object of a sight
abbrev pub there : Option (Option (Arc DynamicObject Global)) → Option DynamicObject
there None = None
there (Some None) = None
there (Some (Some a)) = Some (arc_value a)

-- a patch that is sent takes out the name at an index that a `u64` holds, or adds it, in the second case behind others that were seen
abbrev pub IsSendable : Decision → List (List ℕ) → Type 0
IsSendable (Cleanup i) seen = i < 2 ^ 64
IsSendable AddFirst seen = Unit {0}
IsSendable AddMore [] = ⊥
IsSendable AddMore (s ∷ ss) = Unit {0}
IsSendable Apply seen = ⊥
IsSendable Nothing seen = ⊥
IsSendable Unnamed seen = ⊥

-- a patch is owed
abbrev pub IsDue : Decision → Type 0
IsDue (Cleanup i) = Unit {0}
IsDue AddFirst = Unit {0}
IsDue AddMore = Unit {0}
IsDue Apply = ⊥
IsDue Nothing = ⊥
IsDue Unnamed = ⊥

abbrev pub is_due : Decision → Bool
is_due (Cleanup i) = true
is_due AddFirst = true
is_due AddMore = true
is_due Apply = false
is_due Nothing = false
is_due Unnamed = false

-- the patch of a decision
abbrev pub IsPatchOf : List ℕ → List Operation → Option Decided → Type 0
IsPatchOf name os None = ⊥
IsPatchOf name os (Some d) = (os ≡ patch_on name d.seen d.decision) × IsSendable d.decision d.seen

-- ---- what a server answers to a patch

-- it was done, or refused and all is as before
abbrev pub IsAnswered : ServerState → ServerState → Reference → List Operation → Type 0
IsAnswered old new r os =
    IsHeldAnd (held old r) (λ o. IsPatched old new (patch_change (next_revision old) os o))
    ⊎ ((e : PatchRefusal) × (e ≡ NoMemory → ⊥) × IsPatchRefusal (held old r) (patch_change (next_revision old) os) e × (new ≡ old))

-- ---- decisions and patches of the stage

-- a decision that was made on a state, with the object that was seen
pub record IsMadeAs (name : List ℕ) (m : Made) (d : Decided) : Type 0 where
  pub state : LifeState
  pub decided : d ≡ decided_on name state
  pub decision : m.decision ≡ d.decision
  pub seen : finalizers_in (arc_value m.object).metadata ≡ d.seen

abbrev pub AreMade : List ℕ → List Made → List Decided → Type 0
AreMade name [] [] = Unit {0}
AreMade name [] (d ∷ ds) = ⊥
AreMade name (m ∷ ms) [] = ⊥
AreMade name (m ∷ ms) (d ∷ ds) = IsMadeAs name m d × AreMade name ms ds

abbrev pub AreSent : List ℕ → List Decided → List (Vec Patch Global) → List ℕ → Type 0
AreSent name ds [] [] = Unit {0}
AreSent name ds [] (n ∷ ns) = ⊥
AreSent name ds (v ∷ vs) [] = ⊥
AreSent name ds (v ∷ vs) (n ∷ ns) = IsPatchOf name (map operation_of v.items) (slice_get ds n) × AreSent name ds vs ns

-- each patch has fewer operations than a refusal can count
abbrev pub AreShort : List (Vec Patch Global) → Type 0
AreShort [] = Unit {0}
AreShort (v ∷ vs) = (length v.items < 2 ^ 32) × AreShort vs

-- ---- the stage after the steps of a life

abbrev pub stage_reference : Stage → Reference
stage_reference s = dynamic_reference s.key

-- what was seen, decided and sent
pub record IsKept (name : List ℕ) (s : Stage) (p : Past) : Type 0 where
  pub sights : AreSights s.seen.items (p.before ++ p.current ∷ [])
  pub made : AreMade name s.decisions.items p.decisions
  pub sent : AreSent name p.decisions s.sent.items p.sent

pub record IsStage (name : List ℕ) (s : Stage) (p : Past) : Type 0 where
  pub serves : Serves s.server (stage_reference s) p.current
  pub kept : IsKept name s p
