-- The patches of a candidate, and what its poll answers and asks of the API.
use Rattle.std.specs.Prelude.{◌≡◌, ◌⊎◌, ⊤, ℕ, ◌+◌, List, [], ◌∷◌, Option, Some, None, Result, Ok, Err, codes}
use Rattle.serde_json.specs.Data.{Data, number, string, unsigned}
use Rattle.serde_json.specs.View.{view}
use Rattle.kube_meta.specs.declared.dynamic.DynamicObject.{DynamicObject}
use Rattle.kube_meta.specs.declared.poll.Polled.{Polled}
use Rattle.kube_meta.specs.declared.poll.Polled.TheVariants.{Ready, NotReady}
use Rattle.kube_model.specs.Raw.{grown, FaultRose}
use Rattle.kube_api.specs.Patches.{Operation, Tests, Changes, Puts}
use Rattle.kube_api.specs.ObjectTalk.{ObjectAnswer, AnswersLater, AnswersFault, AnswersObject, AnswersGone, AnswersNone, AnswersRefusal, PatchAsked, is_object_fault, RefusedAs, IsKept, IsNotMemory}
use Rattle.kube_final.specs.FinalizerPolls.{IsLeftUnasked, Objects}
use Rattle.kube_lease.specs.declared.poll.LeaseAnswer.{LeaseAnswer}
use Rattle.kube_lease.specs.declared.poll.LeaseAnswer.TheVariants as answers
use Rattle.kube_lease.specs.Leases.{Choice, Unseen, Renew, Wait, LastTerm, Take, Lease, choice, end_of}
use Rattle.kube_lease.specs.Reading.{lease_at}
use Rattle.kube_lease.specs.Candidates.{Standing, having_observed}

abbrev pub whole : ℕ → Data
whole n = number (unsigned n)

abbrev pub term_path : List ℕ
term_path = codes "/spec/term"

abbrev pub holder_path : List ℕ
holder_path = codes "/spec/holder"

abbrev pub until_path : List ℕ
until_path = codes "/spec/until"

-- tests that the lease is as it was seen, and makes it last until a moment
abbrev pub renewal : Lease → ℕ → List Operation
renewal l until = Tests term_path (whole l.term) ∷ Tests holder_path (string l.holder) ∷ Tests until_path (whole l.until) ∷ Changes until_path (Puts (whole until)) ∷ []

-- tests the term and the end that were seen, and makes it that of an id in the next term until a moment
abbrev pub taking : List ℕ → Lease → ℕ → List Operation
taking id l until =
    Tests term_path (whole l.term) ∷ Tests until_path (whole l.until)
    ∷ Changes term_path (Puts (whole (l.term + 1))) ∷ Changes holder_path (Puts (string id)) ∷ Changes until_path (Puts (whole until)) ∷ []

-- the patch of a choice on a lease, if it has one
abbrev pub patch_by : Standing → ℕ → Lease → Choice → Option (List Operation)
patch_by s now l Renew = Some (renewal l (end_of now s.duration))
patch_by s now l Take = Some (taking s.id l (end_of now s.duration))
patch_by s now l Unseen = None
patch_by s now l (Wait until) = None
patch_by s now l LastTerm = None

-- by the lease that it observed, if it observed one
abbrev pub patch_for : Standing → ℕ → Option Lease → Option (List Operation)
patch_for s now None = None
patch_for s now (Some l) = patch_by s now l (choice s.id s.duration now (Some l))

-- the patch of what a candidate decides at a moment, if it has one
abbrev pub patch_of : Standing → ℕ → Option (List Operation)
patch_of s now = patch_for s now s.seen

-- ---- what the API's answer comes to

-- this lease is held, as the answer has it
abbrev pub IsHeld : Lease → Polled LeaseAnswer → Type 0
IsHeld l (Ready (answers.Held term until)) = (term ≡ l.term) × (until.0 ≡ l.until)
IsHeld l (Ready (answers.Wait until)) = ⊥
IsHeld l (Ready answers.Unseen) = ⊥
IsHeld l (Ready answers.LastTerm) = ⊥
IsHeld l (Ready (answers.Lost refusal)) = ⊥
IsHeld l (Ready (answers.Fault error)) = ⊥
IsHeld l (Ready (answers.Malformed place)) = ⊥
IsHeld l NotReady = ⊥

-- the object of a patch that was done is observed, where it is a lease
abbrev pub IsDone : Result Lease (List ℕ) → Standing → Polled LeaseAnswer → Standing → Type 0
IsDone (Ok l) s answer s' = IsHeld l answer × (s' ≡ having_observed l s)
IsDone (Err place) s answer s' = (answer ≡ Ready (answers.Malformed place)) × (s' ≡ s)

abbrev pub IsAnsweredBy : ObjectAnswer DynamicObject → Standing → Polled LeaseAnswer → Standing → Type 0
IsAnsweredBy AnswersLater s answer s' = (answer ≡ NotReady) × (s' ≡ s)
IsAnsweredBy (AnswersFault error) s answer s' = (answer ≡ Ready (answers.Fault error)) × (s' ≡ s)
IsAnsweredBy (AnswersRefusal refusal) s answer s' = (answer ≡ Ready (answers.Lost refusal)) × (s' ≡ s)
IsAnsweredBy (AnswersObject object) s answer s' = IsDone (lease_at (view object.content)) s answer s'
IsAnsweredBy (AnswersGone status) s answer s' = ⊥
IsAnsweredBy AnswersNone s answer s' = ⊥

-- ---- a poll

-- the patch of a name was sent at this moment, once, which is all that was asked of the API, and was answered so
pub record IsPatched {A V : Type 0} (api : Objects A V) (name : List ℕ) (patch : List Operation) (now : ℕ) (old : A) (answer : ObjectAnswer V) (new : A) : Type 0 where
  pub moved : api.moves old now (record { call = PatchAsked name patch; answer = answer }) new
  pub told : api.talk new ≡ grown (api.talk old) (record { call = PatchAsked name patch; answer = answer })
  pub refused : RefusedAs (api.held old) name patch answer
  pub not_memory : IsNotMemory answer
  pub kept : IsKept answer (api.held old) (api.held new)
  pub rose : FaultRose (is_object_fault answer) (api.faults old) (api.faults new)

pub record IsSent {A : Type 0} (api : Objects A DynamicObject) (patch : List Operation) (now : ℕ) (old : A) (s : Standing) (answer : Polled LeaseAnswer) (new : A) (s' : Standing) : Type 0 where
  pub told : ObjectAnswer DynamicObject
  pub patched : IsPatched api s.lease patch now old told new
  pub answers : IsAnsweredBy told s answer s'

-- until which moment it waits
abbrev pub IsWait : ℕ → Polled LeaseAnswer → Type 0
IsWait n (Ready (answers.Wait until)) = until.0 ≡ n
IsWait n (Ready (answers.Held term until)) = ⊥
IsWait n (Ready answers.Unseen) = ⊥
IsWait n (Ready answers.LastTerm) = ⊥
IsWait n (Ready (answers.Lost refusal)) = ⊥
IsWait n (Ready (answers.Fault error)) = ⊥
IsWait n (Ready (answers.Malformed place)) = ⊥
IsWait n NotReady = ⊥

-- the answer of a decision without a patch
abbrev pub IsUnsent : Choice → Polled LeaseAnswer → Type 0
IsUnsent Unseen answer = answer ≡ Ready answers.Unseen
IsUnsent (Wait until) answer = IsWait until answer
IsUnsent LastTerm answer = answer ≡ Ready answers.LastTerm
IsUnsent Renew answer = ⊤
IsUnsent Take answer = ⊤

-- by the patch of what is decided, if it has one: where none is sent nothing is asked of the API
abbrev pub IsPolledOn : {A : Type 0} → Objects A DynamicObject → ℕ → Choice → Option (List Operation) → A → Standing → Polled LeaseAnswer → A → Standing → Type 0
IsPolledOn api now decided None old s answer new s' = IsUnsent decided answer × (new ≡ old) × (s' ≡ s)
IsPolledOn api now decided (Some patch) old s answer new s' = IsSent api patch now old s answer new s'

-- the poll of a candidate at a moment
abbrev pub IsPolled : {A : Type 0} → Objects A DynamicObject → ℕ → A → Standing → Polled LeaseAnswer → A → Standing → Type 0
IsPolled api now old s answer new s' = IsPolledOn api now (choice s.id s.duration now s.seen) (patch_of s now) old s answer new s'

-- nothing was asked: the API is as it was, or as want of memory leaves it
abbrev pub IsUnasked : {A : Type 0} → Objects A DynamicObject → A → A → Type 0
IsUnasked api old new = (api.talk new ≡ api.talk old) × (api.held new ≡ api.held old) × IsLeftUnasked api old new

-- nothing was asked, or the patch was, once
abbrev pub IsAskedAtMostOnce : {A : Type 0} → Objects A DynamicObject → List ℕ → List Operation → ℕ → A → A → Type 0
IsAskedAtMostOnce api name patch now old new = IsUnasked api old new ⊎ ((answer : ObjectAnswer DynamicObject) × IsPatched api name patch now old answer new)

-- memory could not be had: nothing was asked, or the patch was asked, once, and its reply is lost
abbrev pub IsLostOn : {A : Type 0} → Objects A DynamicObject → List ℕ → ℕ → Option (List Operation) → A → A → Type 0
IsLostOn api name now None old new = new ≡ old
IsLostOn api name now (Some patch) old new = IsAskedAtMostOnce api name patch now old new

abbrev pub IsLost : {A : Type 0} → Objects A DynamicObject → ℕ → Standing → A → A → Type 0
IsLost api now s old new = IsLostOn api s.lease now (patch_of s now) old new
