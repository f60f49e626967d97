-- What an election that is played on a server asks of it, and gives: the lease's object, and the candidates. (Kubernetes API concept: patch.)
use Rattle.std.specs.Prelude.{◌≡◌, ℕ, suc, ◌==◌, Bool, true, false, List, [], ◌∷◌, slice_get, Option, Some, None, cond, codes}
use Rattle.kube_meta.specs.declared.dynamic.DynamicObject.{DynamicObject}
use Rattle.kube_meta.specs.Reading.{ObjectData, seen_object}
use Rattle.kube_meta.specs.Reference.{ObjectType}
use Rattle.kube_api.specs.ObjectTalk.{ObjectAnswer, PatchAsked}
use Rattle.kube_api.specs.Patches.{Operation}
use Rattle.kube_server.specs.History.{Key, State, state_of as objects_after}
use Rattle.kube_server.specs.ObjectCalls.{IsObjectMove}
use Rattle.kube_server.specs.Servers.{IsStep, ServerState, meta_of, put_change}
use Rattle.kube_final.specs.Played.{no_objects}
use Rattle.kube_lease.specs.declared.candidate.Claim.{Claim}
use Rattle.kube_lease.specs.declared.election.Entrant.{Entrant}
use Rattle.kube_lease.specs.declared.election.LeaseStep.{LeaseStep}
use Rattle.kube_lease.specs.declared.election.LeaseStep.TheVariants.{Tick, Observe, Send, Arrive, Reply}
use Rattle.kube_lease.specs.Candidates.{Standing, claim_after}
use Rattle.kube_lease.specs.Elections.{Past, Sent, after, beginning, under}
use Rattle.kube_lease.specs.Leases.{Lease}
use Rattle.kube_lease.specs.Polls.{renewal, taking}
use Rattle.kube_lease.specs.Reading.{lease_data, new_lease}

-- ---- the object of the lease

abbrev pub lease_name : List ℕ
lease_name = codes "lease"

abbrev pub lease_key : Key
lease_key = record { namespace = None; name = lease_name }

-- of its metadata the object has a name, a uid and a version
abbrev pub plain_lease : List ℕ → List ℕ → Lease → ObjectData
plain_lease uid version l = record {
  types = None;
  metadata = record {
    name = Some lease_name;
    namespace = None;
    uid = Some uid;
    resource_version = Some version;
    deletion_timestamp = None;
    generation = None;
    labels = None;
    annotations = None;
    finalizers = None;
    owner_references = None;
  };
  content = lease_data l;
}

-- such an object is this lease
pub record IsSeenAs (o : ObjectData) (l : Lease) : Type 0 where
  pub uid : List ℕ
  pub version : List ℕ
  pub is : o ≡ plain_lease uid version l

-- these objects are that of the lease alone
abbrev pub IsHeldAs : State DynamicObject → Lease → Type 0
IsHeldAs [] l = ⊥
IsHeldAs (p ∷ []) l = (p.0 ≡ lease_key) × IsSeenAs (seen_object p.1) l
IsHeldAs (p ∷ q ∷ ps) l = ⊥

abbrev pub IsHeldBy : ServerState → Lease → Type 0
IsHeldBy server l = IsHeldAs (objects_after meta_of server.changes) l

-- ---- what is asked of the server

-- a patch that was sent, as operations
abbrev pub operations_by : Bool → Sent → List Operation
operations_by true s = renewal s.seen s.makes.until
operations_by false s = taking s.makes.holder s.seen s.makes.until

abbrev pub operations_of : Sent → List Operation
operations_of s = operations_by s.renews s

-- the lease was put on a server of a type of which nothing was asked
abbrev pub IsOpened : ObjectType → ServerState → Type 0
IsOpened kind new = IsStep (no_objects kind) new (put_change (no_objects kind) lease_key (new_lease lease_name))

-- the patch that was sent was asked of the server's objects, once
abbrev pub IsArrivalAsked : ℕ → Option Sent → ServerState → ServerState → Type 0
IsArrivalAsked now None old new = new ≡ old
IsArrivalAsked now (Some s) old new = (answer : ObjectAnswer DynamicObject) × IsObjectMove old None now (record { call = PatchAsked lease_name (operations_of s); answer = answer }) new

-- where no patch arrives nothing is asked
abbrev pub IsStepAsked : Past → LeaseStep → ServerState → ServerState → Type 0
IsStepAsked p (Arrive n) old new = IsArrivalAsked p.now (slice_get p.sent n) old new
IsStepAsked p (Tick by) old new = new ≡ old
IsStepAsked p (Observe c n) old new = new ≡ old
IsStepAsked p (Send c) old new = new ≡ old
IsStepAsked p (Reply c n) old new = new ≡ old

-- one step after another
abbrev pub AreAsked : List Entrant → Past → List LeaseStep → ServerState → ServerState → Type 0
AreAsked es p [] old new = new ≡ old
AreAsked es p (step ∷ steps) old new = (between : ServerState) × IsStepAsked p step old between × AreAsked es (after es p step) steps between new

-- the server of an election that was played
pub record IsPlayedOn (es : List Entrant) (election : List LeaseStep) (server : ServerState) : Type 0 where
  pub kind : ObjectType
  pub opened : ServerState
  pub put : IsOpened kind opened
  pub asked : AreAsked es beginning election opened server

-- ---- the candidates

-- the greatest claim among what a candidate observed
abbrev pub claim_among : List ℕ → ℕ → List (ℕ × Lease) → Option Claim
claim_among id c [] = None
claim_among id c (o ∷ os) = cond (o.0 == c) (claim_after id o.1 (claim_among id c os)) (claim_among id c os)

-- the candidate of a number, after these were observed: it has seen the latest of its own, and has the greatest claim of them
abbrev pub standing_after : ℕ → Entrant → List (ℕ × Lease) → Standing
standing_after c e observed = record { id = e.id; lease = lease_name; duration = e.duration; seen = under c observed; claim = claim_among e.id c observed }

-- those from a number on
abbrev pub standings_from : ℕ → List Entrant → List (ℕ × Lease) → List Standing
standings_from c [] observed = []
standings_from c (e ∷ es) observed = standing_after c e observed ∷ standings_from (suc c) es observed

abbrev pub candidates_after : List Entrant → Past → List Standing
candidates_after es p = standings_from 0 es p.observed
