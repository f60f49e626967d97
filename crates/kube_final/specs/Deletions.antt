-- Deleting an object and waiting until it is gone. V is the type of the object that the deletion answers, W that of the one that is watched. (Crate: `delete_and_finalize`.)
use Rattle.std.specs.Prelude.{◌≡◌, ◌⊎◌, ℕ, List, [], ◌∷◌, Option, Some, None, Result, Ok, Err}
use Rattle.kube_meta.specs.declared.metadata.ObjectMeta.{ObjectMeta}
use Rattle.kube_meta.specs.declared.poll.Next.{Next}
use Rattle.kube_meta.specs.declared.poll.Next.TheVariants.{Item, NotReady, Spent, End}
use Rattle.kube_model.specs.Raw.{grown, FaultRose}
use Rattle.kube_api.specs.ObjectTalk.{ObjectAnswer, AnswersLater, AnswersFault, AnswersObject, AnswersGone, AnswersNone, AnswersRefusal, DeleteAsked, is_object_fault, MissingAs, IsKept}
use Rattle.kube_watch.specs.Polls.{Api}
use Rattle.kube_watch.specs.Objects.{Found}
use Rattle.kube_final.specs.declared.delete.Error.{Error}
use Rattle.kube_final.specs.declared.delete.Error.TheVariants.{NoUid, Delete, Await}
use Rattle.kube_final.specs.declared.delete.DeleteFailed.TheVariants.{NotFound, Fault}
use Rattle.kube_final.specs.declared.delete.Deletion.{Deletion}
use Rattle.kube_final.specs.declared.delete.Deletion.TheVariants.{Later, Told, Failed}
use Rattle.kube_final.specs.declared.wait.Error.TheVariants.{ProbeFailed}
use Rattle.kube_final.specs.Conditions.{is_deleted}
use Rattle.kube_final.specs.FinalizerPolls.{IsLeftUnasked, Objects}
use Rattle.kube_final.specs.Waiting.{Deleting}
use Rattle.kube_final.specs.Waits.{Awaited, LostWait}

-- a uid that can be waited for is no empty text
abbrev pub known : Option (List ℕ) → Deletion
known None = Failed NoUid
known (Some []) = Failed NoUid
known (Some (c ∷ cs)) = Told (c ∷ cs)

-- what an answer to a deletion comes to: it comes later, or the uid to wait for, or why there is none; a deletion is never refused as a patch is
abbrev pub deletion_by : {V : Type 0} → (V → ObjectMeta) → ObjectAnswer V → Option Deletion
deletion_by meta_of AnswersLater = Some Later
deletion_by meta_of (AnswersObject object) = Some (known (meta_of object).uid)
deletion_by meta_of (AnswersGone status) = Some (known status.uid)
deletion_by meta_of AnswersNone = Some (Failed (Delete NotFound))
deletion_by meta_of (AnswersFault error) = Some (Failed (Delete (Fault error)))
deletion_by meta_of (AnswersRefusal refusal) = None

-- the deletion of the object of this name was asked at this moment, once, which is all that was asked of the API: it is what that made of it
pub record IsAsked {O V : Type 0} (objects : Objects O V) (meta_of : V → ObjectMeta) (name : List ℕ) (now : ℕ) (old : O) (deletion : Deletion) (new : O) : Type 0 where
  pub answer : ObjectAnswer V
  pub told : objects.talk new ≡ grown (objects.talk old) (record { call = DeleteAsked name; answer = answer })
  pub moved : objects.moves old now (record { call = DeleteAsked name; answer = answer }) new
  pub comes_to : deletion_by meta_of answer ≡ Some deletion
  pub missing : MissingAs (objects.held old) name answer
  pub kept : IsKept answer (objects.held old) (objects.held new)
  pub rose : FaultRose (is_object_fault answer) (objects.faults old) (objects.faults new)

-- memory could not be had: nothing was asked, and the API is as before, or as want of memory leaves it, with what it tells and holds; or the deletion of the object of this name was asked, once
abbrev pub IsAskedAtMostOnce : {O V : Type 0} → Objects O V → (V → ObjectMeta) → List ℕ → ℕ → O → O → Type 0
IsAskedAtMostOnce objects meta_of name now old new =
    ((objects.talk new ≡ objects.talk old) × (objects.held new ≡ objects.held old) × IsLeftUnasked objects old new) ⊎ ((deletion : Deletion) × IsAsked objects meta_of name now old deletion new)

-- the answer of a poll by that of the wait
abbrev pub ended : {W : Type 0} → Next (Found W) → Next (Result (Unit {0}) Error)
ended (Item (Ok object)) = Item (Ok tt)
ended (Item (Err error)) = Item (Err (Await (ProbeFailed error)))
ended NotReady = NotReady
ended Spent = Spent
ended End = End

-- the object of a uid was waited for
pub record IsAwaited {A W : Type 0} (api : Api A W) (meta_of : W → ObjectMeta) (uid : List ℕ) (now fuel : ℕ) (old : Deleting A W) (answer : Next (Result (Unit {0}) Error)) (new : Deleting A W) : Type 0 where
  pub found : Next (Found W)
  pub awaited : Awaited api (λ object says. says ≡ is_deleted meta_of uid object) now fuel old.watch found new.watch
  pub ends : ended found ≡ answer
  pub keeps : new.uid ≡ Some uid

-- what a poll does once the deletion has come to this: only a uid is waited for, and else the watch stays as it is
abbrev pub IsFollowed : {A W : Type 0} → Api A W → (W → ObjectMeta) → ℕ → ℕ → Deletion → Deleting A W → Next (Result (Unit {0}) Error) → Deleting A W → Type 0
IsFollowed api meta_of now fuel Later old answer new = (answer ≡ NotReady) × (new.watch ≡ old.watch) × (new.uid ≡ None)
IsFollowed api meta_of now fuel (Failed error) old answer new = (answer ≡ Item (Err error)) × (new.watch ≡ old.watch) × (new.uid ≡ None)
IsFollowed api meta_of now fuel (Told uid) old answer new = IsAwaited api meta_of uid now fuel old answer new

-- the deletion is asked where it has told no uid yet, and else nothing is asked of the API of objects
abbrev pub IsDeletedBy : {O V A W : Type 0} → Objects O V → (V → ObjectMeta) → Api A W → (W → ObjectMeta) → ℕ → ℕ → Option (List ℕ) → O → Deleting A W → Next (Result (Unit {0}) Error) → O → Deleting A W → Type 0
IsDeletedBy objects reply_meta api meta_of now fuel (Some uid) before old answer after new = (after ≡ before) × IsAwaited api meta_of uid now fuel old answer new
IsDeletedBy objects reply_meta api meta_of now fuel None before old answer after new =
    (deletion : Deletion) × IsAsked objects reply_meta old.name now before deletion after × IsFollowed api meta_of now fuel deletion old answer new

-- memory could not be had in the wait for the object of a uid
abbrev pub IsWaitLost : {A W : Type 0} → Api A W → (W → ObjectMeta) → List ℕ → ℕ → ℕ → Deleting A W → Deleting A W → Type 0
IsWaitLost api meta_of uid now fuel old new = LostWait api (λ object says. says ≡ is_deleted meta_of uid object) now fuel old.watch new.watch

-- memory could not be had: where a uid was known nothing was asked of the API of objects, and else the deletion at most once; the watch is as before, but where a uid was known or is told now: then it may have been waited for
abbrev pub IsLostBy : {O V A W : Type 0} → Objects O V → (V → ObjectMeta) → Api A W → (W → ObjectMeta) → ℕ → ℕ → Option (List ℕ) → O → Deleting A W → O → Deleting A W → Type 0
IsLostBy objects reply_meta api meta_of now fuel (Some uid) before old after new = (after ≡ before) × IsWaitLost api meta_of uid now fuel old new
IsLostBy objects reply_meta api meta_of now fuel None before old after new =
    (IsAskedAtMostOnce objects reply_meta old.name now before after × (new.watch ≡ old.watch))
    ⊎ ((uid : List ℕ) × IsAsked objects reply_meta old.name now before (Told uid) after × IsWaitLost api meta_of uid now fuel old new)
