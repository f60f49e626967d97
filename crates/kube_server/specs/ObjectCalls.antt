-- What calls to a server's objects are answered, and what they make of the server. (Kubernetes API concepts: patch, resource deletion, finalizers.)
use Rattle.std.specs.Prelude.{◌≡◌, ℕ, List, [], Option, Some, None, Result, Ok, Err, option_map, map}
use Rattle.serde_json.specs.Data.{Data}
use Rattle.kube_meta.specs.declared.metadata.ObjectMeta.{ObjectMeta}
use Rattle.kube_meta.specs.declared.dynamic.DynamicObject.{DynamicObject}
use Rattle.kube_meta.specs.declared.poll.Polled.TheVariants.{Ready}
use Rattle.kube_meta.specs.Reference.{Reference}
use Rattle.kube_meta.specs.Reading.{ObjectData, seen_object}
use Rattle.kube_meta.specs.Writing.{object_data}
use Rattle.kube_model.specs.declared.error.Status.{Status}
use Rattle.kube_api.specs.declared.patch.PatchRefusal.{PatchRefusal}
use Rattle.kube_api.specs.declared.patch.PatchRefusal.TheVariants.{NotFound}
use Rattle.kube_api.specs.Patches.{Operation, operation_of}
use Rattle.kube_api.specs.ObjectTalk.{ObjectCall, PatchAsked, DeleteAsked, ObjectAnswer, AnswersLater, AnswersFault, AnswersObject, AnswersGone, AnswersNone, AnswersRefusal, ObjectRaw, patch_answer, delete_answer}
use Rattle.kube_server.specs.History.{Change, Adds, Modifies, Removes, object_of}
use Rattle.kube_server.specs.Servers.{ServerState, held, next_revision, deletion, patch_change, IsStep, IsAtMostStep}
use Rattle.kube_server.specs.declared.object_told.ObjectTold.{ObjectTold}
use Rattle.kube_server.specs.declared.object_told.ObjectTold.TheVariants.{Patch as PatchTold, Delete as DeleteTold}
use Rattle.kube_server.specs.declared.server_objects.ServerObjects.{ServerObjects}

-- the reference of a name in a namespace
abbrev pub reference_in : ServerState → Option (List ℕ) → List ℕ → Reference
reference_in s namespace name = record { kind = s.kind; name = name; namespace = namespace }

-- the document that is held under a name
abbrev pub held_document : ServerState → Option (List ℕ) → List ℕ → Option Data
held_document s namespace name = option_map object_data (held s (reference_in s namespace name))

-- an answer, with its object as it is seen
abbrev pub answer_seen : {V W : Type 0} → (V → W) → ObjectAnswer V → ObjectAnswer W
answer_seen f AnswersLater = AnswersLater
answer_seen f (AnswersFault error) = AnswersFault error
answer_seen f (AnswersObject object) = AnswersObject (f object)
answer_seen f (AnswersGone status) = AnswersGone status
answer_seen f AnswersNone = AnswersNone
answer_seen f (AnswersRefusal refusal) = AnswersRefusal refusal

-- ---- patches

abbrev pub patched_answer : Result (Change ObjectData) PatchRefusal → ObjectAnswer ObjectData
patched_answer (Ok change) = AnswersObject (object_of change)
patched_answer (Err refusal) = AnswersRefusal refusal

-- the patched object, also where it is removed thereby, or why the patch is refused
abbrev pub answer_of_patch : ℕ → List Operation → Option ObjectData → ObjectAnswer ObjectData
answer_of_patch r os None = AnswersRefusal NotFound
answer_of_patch r os (Some o) = patched_answer (patch_change r os o)

abbrev pub IsPatchedOrKept : ServerState → ServerState → Result (Change ObjectData) PatchRefusal → Type 0
IsPatchedOrKept old new (Ok change) = IsStep old new change
IsPatchedOrKept old new (Err refusal) = new ≡ old

abbrev pub IsLeftByPatch : ServerState → ServerState → List Operation → Option ObjectData → Type 0
IsLeftByPatch old new os None = new ≡ old
IsLeftByPatch old new os (Some o) = IsPatchedOrKept old new (patch_change (next_revision old) os o)

-- a refusal leaves the server as it was
abbrev pub IsKeptServer : {V : Type 0} → ObjectAnswer V → ServerState → ServerState → Type 0
IsKeptServer (AnswersRefusal refusal) old new = new ≡ old
IsKeptServer AnswersLater old new = new ≡ old
IsKeptServer AnswersNone old new = new ≡ old
IsKeptServer _ old new = Unit {0}

-- ---- deletions

-- a removed object's status
abbrev pub gone_status : Option (List ℕ) → Status
gone_status uid = record { code = 200; reason = []; message = []; uid = uid }

abbrev pub change_answer : {V : Type 0} → (V → ObjectMeta) → Change V → ObjectAnswer V
change_answer meta (Adds object) = AnswersObject object
change_answer meta (Modifies object) = AnswersObject object
change_answer meta (Removes object) = AnswersGone (gone_status (meta object).uid)

abbrev pub deleted_answer : ObjectData → Option (Change ObjectData) → ObjectAnswer ObjectData
deleted_answer o None = AnswersObject o
deleted_answer o (Some change) = change_answer (λ x. x.metadata) change

-- the object where it stays, and else that it is gone
abbrev pub answer_of_delete : ℕ → ℕ → Option ObjectData → ObjectAnswer ObjectData
answer_of_delete r now None = AnswersNone
answer_of_delete r now (Some o) = deleted_answer o (deletion r now o)

abbrev pub IsLeftByDelete : ServerState → ServerState → ℕ → Option ObjectData → Type 0
IsLeftByDelete old new now None = new ≡ old
IsLeftByDelete old new now (Some o) = IsAtMostStep old new (deletion (next_revision old) now o)

-- ---- calls in a namespace, at a moment

abbrev pub answer_of_call : ServerState → Option (List ℕ) → ℕ → ObjectCall → ObjectAnswer ObjectData
answer_of_call s namespace now (PatchAsked name os) = answer_of_patch (next_revision s) os (held s (reference_in s namespace name))
answer_of_call s namespace now (DeleteAsked name) = answer_of_delete (next_revision s) now (held s (reference_in s namespace name))

abbrev pub IsLeftByCall : ServerState → Option (List ℕ) → ℕ → ObjectCall → ServerState → Type 0
IsLeftByCall old namespace now (PatchAsked name os) new = IsLeftByPatch old new os (held old (reference_in old namespace name))
IsLeftByCall old namespace now (DeleteAsked name) new = IsLeftByDelete old new now (held old (reference_in old namespace name))

-- a call is answered as the object under its name has it, and makes of the server what it then makes
pub record IsObjectMove (old : ServerState) (namespace : Option (List ℕ)) (now : ℕ) (raw : ObjectRaw DynamicObject) (new : ServerState) : Type 0 where
  pub answer : answer_seen seen_object raw.answer ≡ answer_of_call old namespace now raw.call
  pub left : IsLeftByCall old namespace now raw.call new

-- ---- what was told

abbrev pub object_raw : ObjectTold → ObjectRaw DynamicObject
object_raw (PatchTold name patch answer) = record { call = PatchAsked name (map operation_of patch.items); answer = patch_answer (Ready answer) }
object_raw (DeleteTold name answer) = record { call = DeleteAsked name; answer = delete_answer (Ready answer) }

-- the calls so far with their answers
abbrev pub objects_talk : ServerObjects → List (ObjectRaw DynamicObject)
objects_talk objects = map object_raw objects.told.items
