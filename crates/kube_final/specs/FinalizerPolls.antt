-- What a poll of a finalizer answers, and what it asks of the API. E is the type of a branch's fault. (Crate: `finalizer`.)
use Rattle.std.specs.Prelude.{◌≡◌, ◌⊎◌, ℕ, Bool, true, false, List, Option, Some, None, Result, Ok, Err, unwrap_or, []}
use Rattle.serde_json.specs.Data.{Data}
use Rattle.kube_meta.specs.declared.metadata.ObjectMeta.{ObjectMeta}
use Rattle.kube_meta.specs.declared.poll.Polled.{Polled}
use Rattle.kube_meta.specs.declared.poll.Polled.TheVariants.{Ready, NotReady}
use Rattle.kube_model.specs.Raw.{grown, FaultRose}
use Rattle.kube_api.specs.declared.object_api.ObjectApi as object_api
use Rattle.kube_api.specs.Patches.{Operation}
use Rattle.kube_api.specs.ObjectTalk.{ObjectAnswer, AnswersLater, AnswersFault, AnswersObject, AnswersGone, AnswersNone, AnswersRefusal, ObjectRaw, PatchAsked, is_object_fault, RefusedAs, IsKept, IsNotMemory}
use Rattle.kube_final.specs.declared.finalizer.Decision.{Decision}
use Rattle.kube_final.specs.declared.finalizer.Decision.TheVariants.{Apply, Cleanup, AddFirst, AddMore, Nothing, Unnamed}
use Rattle.kube_final.specs.declared.finalizer.Error.{Error}
use Rattle.kube_final.specs.declared.finalizer.Error.TheVariants.{ApplyFailed, CleanupFailed, AddFinalizer, RemoveFinalizer, UnnamedObject}
use Rattle.kube_final.specs.declared.finalizer.PatchFailed.{PatchFailed}
use Rattle.kube_final.specs.declared.finalizer.PatchFailed.TheVariants.{Refused, Fault}
use Rattle.kube_final.specs.declared.finalizer.Step.{Step}
use Rattle.kube_final.specs.declared.finalizer.Step.TheVariants.{Ends as EndsStep, Waits as WaitsStep, Sends as SendsStep}
use Rattle.kube_final.specs.Finalizers.{decision_on, finalizers_in, patch_on}

-- an action (the nanoseconds of its requeue, or none), or why there is none
abbrev pub Answer : Type 0 → Type 0
Answer E = Result (Option ℕ) (Error E)

-- what a poll comes to: this answer; or the branch that is owed was not given; or the patch is sent, and where it is done this is the action
pub data Course (E : Type 0) : Type 0 where
  Ends : (answer : Answer E) → Course E
  Waits : Course E
  Sends : (action : Option ℕ) → Course E

-- what the branch of an object that is to be as it says comes to
abbrev pub applied : {E : Type 0} → Option (Result (Option ℕ) E) → Course E
applied None = Waits
applied (Some (Ok action)) = Ends (Ok action)
applied (Some (Err fault)) = Ends (Err (ApplyFailed fault))

-- a cleanup succeeded in an earlier poll, or is told now; the patch is sent only after it succeeded
abbrev pub cleaned : {E : Type 0} → Option (Option ℕ) → Option (Result (Option ℕ) E) → Course E
cleaned (Some action) branch = Sends action
cleaned None None = Waits
cleaned None (Some (Ok action)) = Sends action
cleaned None (Some (Err fault)) = Ends (Err (CleanupFailed fault))

-- by the decision, the outcome of a cleanup in an earlier poll, and the branch that is given in this one
abbrev pub course : {E : Type 0} → Decision → Option (Option ℕ) → Option (Result (Option ℕ) E) → Course E
course Apply outcome branch = applied branch
course (Cleanup i) outcome branch = cleaned outcome branch
course AddFirst outcome branch = Sends None
course AddMore outcome branch = Sends None
course Nothing outcome branch = Ends (Ok None)
course Unnamed outcome branch = Ends (Err UnnamedObject)

abbrev pub course_of : {E : Type 0} → Step E → Course E
course_of (EndsStep answer) = Ends answer
course_of WaitsStep = Waits
course_of (SendsStep action) = Sends action

-- the action of a cleanup that succeeded, in an earlier poll or in this one
abbrev pub cleaned_after : {E : Type 0} → Option (Option ℕ) → Option (Result (Option ℕ) E) → Option (Option ℕ)
cleaned_after (Some action) branch = Some action
cleaned_after None (Some (Ok action)) = Some action
cleaned_after None (Some (Err fault)) = None
cleaned_after None None = None

abbrev pub outcome_after : {E : Type 0} → Decision → Option (Option ℕ) → Option (Result (Option ℕ) E) → Option (Option ℕ)
outcome_after (Cleanup i) outcome branch = cleaned_after outcome branch
outcome_after Apply outcome branch = outcome
outcome_after AddFirst outcome branch = outcome
outcome_after AddMore outcome branch = outcome
outcome_after Nothing outcome branch = outcome
outcome_after Unnamed outcome branch = outcome

abbrev pub is_ready : {T : Type 0} → Polled T → Bool
is_ready (Ready x) = true
is_ready NotReady = false

-- ---- the answer by that of the patch

-- adding a finalizer failed, or removing one
abbrev pub failed : {E : Type 0} → Decision → PatchFailed → Error E
failed (Cleanup i) why = RemoveFinalizer why
failed Apply why = AddFinalizer why
failed AddFirst why = AddFinalizer why
failed AddMore why = AddFinalizer why
failed Nothing why = AddFinalizer why
failed Unnamed why = AddFinalizer why

-- none where a patch is never answered so
abbrev pub answer_by : {V E : Type 0} → Decision → Option ℕ → ObjectAnswer V → Option (Polled (Answer E))
answer_by decision action AnswersLater = Some NotReady
answer_by decision action (AnswersObject object) = Some (Ready (Ok action))
answer_by decision action (AnswersRefusal refusal) = Some (Ready (Err (failed decision (Refused refusal))))
answer_by decision action (AnswersFault error) = Some (Ready (Err (failed decision (Fault error))))
answer_by decision action (AnswersGone status) = None
answer_by decision action AnswersNone = None

-- ---- a poll

-- what is asked of an API of objects: what a call makes of it, what want of memory leaves of it, what it holds, what it tells, and how often it failed
pub record Objects (A V : Type 0) : Type 1 where
  pub moves : A → ℕ → ObjectRaw V → A → Type 0
  pub rests : A → A → Type 0
  pub held : A → Option (List ℕ → Option Data)
  pub talk : A → Option (List (ObjectRaw V))
  pub faults : A → ℕ

-- what is asked of one that says so of itself
abbrev pub objects_in : {A V D : Type 0} → object_api.Ghosts A V D → Objects A V
objects_in api = record { moves = api.moves; rests = api.rests; held = api.held; talk = api.talk; faults = api.faults }

-- memory could not be had, and nothing was asked: the API is as it was, or as want of memory leaves it
abbrev pub IsLeftUnasked : {A V : Type 0} → Objects A V → A → A → Type 0
IsLeftUnasked api old new = (new ≡ old) ⊎ api.rests old new

-- the patch was sent at this moment, once, which is all that was asked of the API: it is what that made of it, and its answer is that of the poll
pub record IsSent {A V E : Type 0} (api : Objects A V) (name : List ℕ) (patch : List Operation) (decision : Decision) (action : Option ℕ) (now : ℕ) (old : A) (answer : Polled (Answer E)) (new : A) : Type 0 where
  pub patched : ObjectAnswer V
  pub told : api.talk new ≡ grown (api.talk old) (record { call = PatchAsked name patch; answer = patched })
  pub moved : api.moves old now (record { call = PatchAsked name patch; answer = patched }) new
  pub answers : answer_by decision action patched ≡ Some answer
  pub refused : RefusedAs (api.held old) name patch patched
  pub not_memory : IsNotMemory patched
  pub kept : IsKept patched (api.held old) (api.held new)
  pub rose : FaultRose (is_object_fault patched) (api.faults old) (api.faults new)

-- where no patch is sent nothing is asked of the API
abbrev pub IsPolledBy : {A V E : Type 0} → Objects A V → List ℕ → List Operation → Decision → Course E → ℕ → A → Polled (Answer E) → A → Type 0
IsPolledBy api name patch decision (Ends wanted) now old answer new = (answer ≡ Ready wanted) × (new ≡ old)
IsPolledBy api name patch decision Waits now old answer new = (answer ≡ NotReady) × (new ≡ old)
IsPolledBy api name patch decision (Sends action) now old answer new = IsSent api name patch decision action now old answer new

-- the poll of a finalizer for an object with this metadata, whose branch is given or not, at a moment
abbrev pub IsPolled : {A V E : Type 0} → Objects A V → List ℕ → ObjectMeta → Option (Option ℕ) → Option (Result (Option ℕ) E) → ℕ → A → Polled (Answer E) → A → Type 0
IsPolled api name meta outcome branch =
    IsPolledBy api (unwrap_or meta.name []) (patch_on name (finalizers_in meta) (decision_on name meta)) (decision_on name meta) (course (decision_on name meta) outcome branch)
