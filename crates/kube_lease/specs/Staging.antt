-- What a stage on which an election is played holds after the steps so far: a server with the lease's object, the objects that it had, the candidates, the patches that were sent, and the objects that patches made.
use Rattle.std.specs.Prelude.{◌≡◌, ℕ, ◌+◌, ◌<◌, ◌^◌, Bool, true, false, List, [], ◌∷◌, ◌++◌, length, map, slice_get, zero, suc, Option, Some, None, option_map}
use Rattle.std.specs.Arc.{arc_value}
use Rattle.std.specs.declared.alloc.Global.{Global}
use Rattle.std.specs.declared.sync.Arc.{Arc}
use Rattle.kube_meta.specs.declared.dynamic.DynamicObject.{DynamicObject}
use Rattle.kube_meta.specs.Reading.{seen_object}
use Rattle.kube_meta.specs.Reference.{Reference}
use Rattle.kube_meta.specs.Resources.{dynamic_reference}
use Rattle.kube_api.specs.Patches.{Operation, operation_of}
use Rattle.kube_api.specs.ObjectTalk.{ObjectAnswer, AnswersLater, AnswersFault, AnswersObject, AnswersGone, AnswersNone, AnswersRefusal, ObjectCall, PatchAsked, DeleteAsked, ObjectRaw}
use Rattle.kube_server.specs.ObjectCalls.{IsObjectMove}
use Rattle.kube_server.specs.Servers.{ServerState, reference_key}
use Rattle.kube_lease.specs.declared.election.Entrant.{Entrant}
use Rattle.kube_lease.specs.declared.play.Made.{Made}
use Rattle.kube_lease.specs.declared.play.Outbox.{Outbox}
use Rattle.kube_lease.specs.declared.play.Stage.{Stage}
use Rattle.kube_lease.specs.Candidates.{Standing, having_observed, standing}
use Rattle.kube_lease.specs.Elections.{Past, Sent, leases, passes}
use Rattle.kube_lease.specs.Leases.{Lease}
use Rattle.kube_lease.specs.Played.{IsArrivalAsked, IsHeldBy, IsSeenAs, candidates_after, lease_key, lease_name, operations_of}
use Rattle.kube_lease.specs.Polls.{patch_of}

-- ---- patches that are sent

abbrev pub patches_in : Outbox → List (List Operation)
patches_in o = map (λ v. map operation_of v.items) o.sent.items

-- each has fewer operations than a refusal can count
abbrev pub AreShort : List (List Operation) → Type 0
AreShort [] = Unit {0}
AreShort (os ∷ oss) = (length os < 2 ^ 32) × AreShort oss

abbrev pub posted_by : ObjectCall → List (List Operation) → List (List Operation)
posted_by (PatchAsked name os) before = before ++ os ∷ []
posted_by (DeleteAsked name) before = before

-- a call is answered later, and where it is a patch it is kept
abbrev pub IsPosted : Outbox → ObjectRaw DynamicObject → Outbox → Type 0
IsPosted old raw new = (raw.answer ≡ AnswersLater) × (patches_in new ≡ posted_by raw.call (patches_in old))

-- the patch of a decision on what a candidate observed last, if it has one
abbrev pub only_if : Option (List Operation) → List (List Operation)
only_if None = []
only_if (Some os) = os ∷ []

abbrev pub patches_for : ℕ → Option Standing → List (List Operation)
patches_for now None = []
patches_for now (Some s) = only_if (patch_of s now)

-- ---- a patch that arrives at a server

-- the object of an answer, if it has one
abbrev pub object_in : {V : Type 0} → ObjectAnswer V → Option V
object_in (AnswersObject object) = Some object
object_in AnswersLater = None
object_in (AnswersFault error) = None
object_in (AnswersGone status) = None
object_in AnswersNone = None
object_in (AnswersRefusal refusal) = None

-- it was asked at a moment, and gives the object that it made, if it was done
pub record IsAnswered (old new : ServerState) (now : ℕ) (os : List Operation) (made : Option (Arc DynamicObject Global)) : Type 0 where
  pub answer : ObjectAnswer DynamicObject
  pub move : IsObjectMove old None now (record { call = PatchAsked lease_name os; answer = answer }) new
  pub gives : option_map arc_value made ≡ object_in answer

-- ---- the server

-- the reference is of the lease's object, which is all that the server has
pub record Serves (server : ServerState) (r : Reference) (l : Lease) : Type 0 where
  pub kind : server.kind ≡ r.kind
  pub key : reference_key r ≡ lease_key
  pub holds : IsHeldBy server l

-- it made a lease, and the server has it; or none, and the server has the one of before
abbrev pub IsArrived : ServerState → Reference → Lease → Sent → Option (Arc DynamicObject Global) → Type 0
IsArrived new r l s None = (passes s l ≡ false) × Serves new r l
IsArrived new r l s (Some object) = (passes s l ≡ true) × Serves new r s.makes × IsSeenAs (seen_object (arc_value object)) s.makes

-- the patch that was sent as the n-th was asked of the server, and arrived so
pub record IsDelivered (p : Past) (n : ℕ) (old new : ServerState) (r : Reference) (made : Option (Arc DynamicObject Global)) : Type 0 where
  pub sent : Sent
  pub is_sent : slice_get p.sent n ≡ Some sent
  pub asked : IsArrivalAsked p.now (Some sent) old new
  pub arrived : IsArrived new r p.current sent made

-- ---- what was seen, and made

abbrev pub AreSights : List (Arc DynamicObject Global) → List Lease → Type 0
AreSights [] [] = Unit {0}
AreSights [] (l ∷ ls) = ⊥
AreSights (o ∷ os) [] = ⊥
AreSights (o ∷ os) (l ∷ ls) = IsSeenAs (seen_object (arc_value o)) l × AreSights os ls

-- one object more was seen, which is this lease
pub record HasOneMore (old new : List (Arc DynamicObject Global)) (l : Lease) : Type 0 where
  pub object : Arc DynamicObject Global
  pub more : new ≡ old ++ object ∷ []
  pub seen : IsSeenAs (seen_object (arc_value object)) l

-- which patch made which object
abbrev pub AreMade : List Made → List (ℕ × Lease) → Type 0
AreMade [] [] = Unit {0}
AreMade [] (x ∷ xs) = ⊥
AreMade (m ∷ ms) [] = ⊥
AreMade (m ∷ ms) (x ∷ xs) = (m.send ≡ x.0) × IsSeenAs (seen_object (arc_value m.object)) x.1 × AreMade ms xs

-- ---- the candidates

-- the candidate at a place observes a lease; past their end none does
abbrev pub observed_at : ℕ → Lease → List Standing → List Standing
observed_at n l [] = []
observed_at zero l (s ∷ ss) = having_observed l s ∷ ss
observed_at (suc n) l (s ∷ ss) = s ∷ observed_at n l ss

-- one that enters an election
abbrev pub entered : Entrant → Standing
entered e = standing e.id lease_name e.duration

-- ---- leases and patches

-- a `u64` holds its numbers
abbrev pub IsSmall : Lease → Type 0
IsSmall l = (l.term < 2 ^ 64) × (l.until < 2 ^ 64)

-- a renewal makes a lease of the holder and the term that it tests, and another patch one of the next term
abbrev pub IsFormedBy : Bool → Sent → Type 0
IsFormedBy true s = (s.makes.holder ≡ s.seen.holder) × (s.makes.term ≡ s.seen.term)
IsFormedBy false s = s.makes.term ≡ s.seen.term + 1

abbrev pub IsRegularSent : Sent → Type 0
IsRegularSent s = IsSmall s.seen × IsSmall s.makes × IsFormedBy s.renews s

pub record IsRegular (p : Past) : Type 0 where
  pub states : (k : ℕ) (l : Lease) → slice_get (leases p) k ≡ Some l → IsSmall l
  pub observed : (k c : ℕ) (l : Lease) → slice_get p.observed k ≡ Some (c, l) → IsSmall l
  pub sent : (k : ℕ) (s : Sent) → slice_get p.sent k ≡ Some s → IsRegularSent s
  pub made : (k n : ℕ) (l : Lease) → slice_get p.made k ≡ Some (n, l) → IsSmall l

-- ---- the stage after the steps of an election

abbrev pub stage_reference : Stage → Reference
stage_reference s = dynamic_reference s.key

pub record IsStage (es : List Entrant) (s : Stage) (p : Past) : Type 0 where
  pub now : s.now.0 ≡ p.now
  pub serves : Serves s.server (stage_reference s) p.current
  pub sights : AreSights s.seen.items (leases p)
  pub candidates : s.candidates.items ≡ candidates_after es p
  pub sent : patches_in s.outbox ≡ map operations_of p.sent
  pub made : AreMade s.made.items p.made
  pub regular : IsRegular p
