-- Calls to an API of single objects with their answers, as plain data. V is the type of objects. (Kubernetes API concepts: patch, resource deletion, finalizers.)
use Rattle.std.specs.Prelude.{◌≡◌, ℕ, Bool, true, false, List, Option, Some, None, Result, Ok, Err, ⊤}
use Rattle.std.specs.Arc.{arc_value}
use Rattle.serde_json.specs.Data.{Data}
use Rattle.kube_meta.specs.declared.poll.Polled.{Polled}
use Rattle.kube_meta.specs.declared.poll.Polled.TheVariants.{Ready, NotReady}
use Rattle.kube_model.specs.declared.error.ApiError.{ApiError}
use Rattle.kube_model.specs.declared.error.Status.{Status}
use Rattle.kube_api.specs.declared.patch.PatchRefusal.{PatchRefusal}
use Rattle.kube_api.specs.declared.patch.PatchRefusal.TheVariants.{NoMemory as out_of_memory, NotFound as not_found}
use Rattle.kube_api.specs.declared.object_api.PatchAnswer.{PatchAnswer}
use Rattle.kube_api.specs.declared.object_api.PatchAnswer.TheVariants.{Done, Refused, Fault as PatchFault}
use Rattle.kube_api.specs.declared.object_api.DeleteAnswer.{DeleteAnswer}
use Rattle.kube_api.specs.declared.object_api.DeleteAnswer.TheVariants.{Object as StaysThere, Status as IsGone, NotFound as NoSuch, Fault as DeleteFault}
use Rattle.kube_api.specs.Patches.{Operation, patched}

pub data ObjectCall : Type 0 where
  PatchAsked : (name : List ℕ) → (operations : List Operation) → ObjectCall
  DeleteAsked : (name : List ℕ) → ObjectCall

-- what a call was answered: not yet, a fault, the object as it is now, that it is gone, that there is none, or why a patch was refused
pub data ObjectAnswer (V : Type 0) : Type 0 where
  AnswersLater : ObjectAnswer V
  AnswersFault : (error : ApiError) → ObjectAnswer V
  AnswersObject : (object : V) → ObjectAnswer V
  AnswersGone : (status : Status) → ObjectAnswer V
  AnswersNone : ObjectAnswer V
  AnswersRefusal : (refusal : PatchRefusal) → ObjectAnswer V

-- a call with its answer
pub record ObjectRaw (V : Type 0) : Type 0 where
  pub call : ObjectCall
  pub answer : ObjectAnswer V

abbrev pub patch_answer : {V : Type 0} → Polled (PatchAnswer V) → ObjectAnswer V
patch_answer NotReady = AnswersLater
patch_answer (Ready (Done object)) = AnswersObject (arc_value object)
patch_answer (Ready (Refused refusal)) = AnswersRefusal refusal
patch_answer (Ready (PatchFault error)) = AnswersFault error

abbrev pub delete_answer : {V : Type 0} → Polled (DeleteAnswer V) → ObjectAnswer V
delete_answer NotReady = AnswersLater
delete_answer (Ready (StaysThere object)) = AnswersObject (arc_value object)
delete_answer (Ready (IsGone status)) = AnswersGone status
delete_answer (Ready NoSuch) = AnswersNone
delete_answer (Ready (DeleteFault error)) = AnswersFault error

abbrev pub is_object_fault : {V : Type 0} → ObjectAnswer V → Bool
is_object_fault (AnswersFault error) = true
is_object_fault _ = false

-- a patch of the object that is held, or of none, is refused
abbrev pub refusal_in : Result Data PatchRefusal → Option PatchRefusal
refusal_in (Ok d) = None
refusal_in (Err refusal) = Some refusal

abbrev pub refusal_of : Option Data → List Operation → Option PatchRefusal
refusal_of None os = Some not_found
refusal_of (Some d) os = refusal_in (patched os d)

-- an answer that is ready and no fault is a refusal exactly where the patch of what is held is refused, and that refusal
abbrev pub AnswersPatch : {V : Type 0} → ObjectAnswer V → Option PatchRefusal → Type 0
AnswersPatch AnswersLater wanted = ⊤
AnswersPatch (AnswersFault error) wanted = ⊤
AnswersPatch (AnswersObject object) wanted = wanted ≡ None
AnswersPatch (AnswersGone status) wanted = ⊥
AnswersPatch AnswersNone wanted = ⊥
AnswersPatch (AnswersRefusal refusal) wanted = wanted ≡ Some refusal

abbrev pub RefusedAs : {V : Type 0} → Option (List ℕ → Option Data) → List ℕ → List Operation → ObjectAnswer V → Type 0
RefusedAs None name os answer = ⊤
RefusedAs (Some held) name os answer = AnswersPatch answer (refusal_of (held name) os)

-- an answer that is ready and no fault is that there is none exactly where none is held
abbrev pub AnswersDelete : {V : Type 0} → ObjectAnswer V → Option Data → Type 0
AnswersDelete AnswersLater d = ⊤
AnswersDelete (AnswersFault error) d = ⊤
AnswersDelete (AnswersObject object) None = ⊥
AnswersDelete (AnswersObject object) (Some d) = ⊤
AnswersDelete (AnswersGone status) None = ⊥
AnswersDelete (AnswersGone status) (Some d) = ⊤
AnswersDelete AnswersNone d = d ≡ None
AnswersDelete (AnswersRefusal refusal) d = ⊥

abbrev pub MissingAs : {V : Type 0} → Option (List ℕ → Option Data) → List ℕ → ObjectAnswer V → Type 0
MissingAs None name answer = ⊤
MissingAs (Some held) name answer = AnswersDelete answer (held name)

-- a refusal, that there is none, and that the answer comes later change nothing of what is held
abbrev pub IsKept : {V : Type 0} → ObjectAnswer V → Option (List ℕ → Option Data) → Option (List ℕ → Option Data) → Type 0
IsKept AnswersLater old new = new ≡ old
IsKept (AnswersFault error) old new = ⊤
IsKept (AnswersObject object) old new = ⊤
IsKept (AnswersGone status) old new = ⊤
IsKept AnswersNone old new = new ≡ old
IsKept (AnswersRefusal refusal) old new = new ≡ old

-- want of memory is no refusal
abbrev pub IsNotMemory : {V : Type 0} → ObjectAnswer V → Type 0
IsNotMemory (AnswersRefusal refusal) = ¬ (refusal ≡ out_of_memory)
IsNotMemory _ = ⊤
