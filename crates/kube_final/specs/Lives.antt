-- A life of one object under the finalizer of one name: what happens to its finalizers, step by step. (Kubernetes API concept "finalizers"; an object of one uid.)
use Rattle.std.specs.Prelude.{ℕ, nat_lt, ◌==◌, Bool, true, false, not, ◌&&◌, List, [], ◌∷◌, ◌++◌, length, filter, remove, slice_get, Option, Some, None, if◌then◌else◌}
use Rattle.std.specs.List.{count_by, list_any, fold}
use Rattle.std.specs.Str.{bytes_eq}
use Rattle.kube_final.specs.declared.finalizer.Decision.{Decision}
use Rattle.kube_final.specs.declared.finalizer.Decision.TheVariants.{Apply, Cleanup, AddFirst, AddMore, Nothing, Unnamed}
use Rattle.kube_final.specs.declared.life.LifeStep.{LifeStep}
use Rattle.kube_final.specs.declared.life.LifeStep.TheVariants.{Other, RequestDelete, Decide, ApplyStarts, CleanupStarts, CleanupEnds, Send, Arrive}
use Rattle.kube_final.specs.declared.life.LifeState.{LifeState}
use Rattle.kube_final.specs.Finalizers.{decided, first_index}

-- ---- the object

abbrev pub is_empty : List (List ℕ) → Bool
is_empty [] = true
is_empty (n ∷ ns) = false

-- an object that is being deleted with no finalizers goes
abbrev pub state_of : List (List ℕ) → Bool → LifeState
state_of finalizers deleting = record { finalizers = finalizers; deleting = deleting; gone = deleting && is_empty finalizers }

-- it is there, not being deleted and without finalizers
abbrev pub first_state : LifeState
first_state = state_of [] false

abbrev pub is_name : List ℕ → List ℕ → Bool
is_name name other = bytes_eq other name

-- the finalizers other than the name
abbrev pub others_in : List ℕ → List (List ℕ) → List (List ℕ)
others_in name = filter (λ other. not (is_name name other))

-- how often the name is among them
abbrev pub count_of : List ℕ → List (List ℕ) → ℕ
count_of name = count_by (is_name name)

abbrev pub same_names : List (List ℕ) → List (List ℕ) → Bool
same_names [] [] = true
same_names [] (n ∷ ns) = false
same_names (m ∷ ms) [] = false
same_names (m ∷ ms) (n ∷ ns) = bytes_eq m n && same_names ms ns

-- ---- decisions, and the patches that they come to

-- a decision, with the finalizers that were seen
pub record Decided : Type 0 where
  pub decision : Decision
  pub seen : List (List ℕ)

-- the object has a name
abbrev pub decided_on : List ℕ → LifeState → Decided
decided_on name state = record { decision = decided true state.deleting (first_index name state.finalizers) state.finalizers; seen = state.finalizers }

abbrev pub is_at : List ℕ → Option (List ℕ) → Bool
is_at name None = false
is_at name (Some other) = is_name name other

-- what the patch of a decision makes of finalizers: they stay where its test fails
abbrev pub patched_by : List ℕ → Decision → List (List ℕ) → List (List ℕ) → List (List ℕ)
patched_by name (Cleanup i) seen finalizers = if is_at name (slice_get finalizers i) then remove finalizers i else finalizers
patched_by name AddFirst seen finalizers = if is_empty finalizers then name ∷ [] else finalizers
patched_by name AddMore seen finalizers = if same_names seen finalizers then finalizers ++ name ∷ [] else finalizers
patched_by name Apply seen finalizers = finalizers
patched_by name Nothing seen finalizers = finalizers
patched_by name Unnamed seen finalizers = finalizers

-- a patch that arrives where the object has gone changes nothing
abbrev pub arrived : List ℕ → LifeState → Option Decided → LifeState
arrived name state None = state
arrived name state (Some d) = if state.gone then state else state_of (patched_by name d.decision d.seen state.finalizers) state.deleting

-- ---- what came before a step

-- the states of the object before each of the steps so far, and now; the decisions; of which decisions a Cleanup has started, of which one succeeded, and of which the patch was sent, each in order
pub record Past : Type 0 where
  pub before : List LifeState
  pub current : LifeState
  pub decisions : List Decided
  pub started : List ℕ
  pub cleaned : List ℕ
  pub sent : List ℕ

abbrev pub beginning : Past
beginning = record { before = []; current = first_state; decisions = []; started = []; cleaned = []; sent = [] }

-- the state after so many steps
abbrev pub state_at : Past → ℕ → Option LifeState
state_at p n = slice_get (p.before ++ p.current ∷ []) n

abbrev pub decision_at : Past → ℕ → Option Decided
decision_at p n = slice_get p.decisions n

-- the decision of the patch that was sent as the n-th
abbrev pub decision_of : Past → Option ℕ → Option Decided
decision_of p None = None
decision_of p (Some d) = decision_at p d

abbrev pub state_after : List ℕ → Past → LifeStep → LifeState
state_after name p (Other finalizers) = state_of finalizers p.current.deleting
state_after name p RequestDelete = state_of p.current.finalizers true
state_after name p (Arrive n) = arrived name p.current (decision_of p (slice_get p.sent n))
state_after name p (Decide sight) = p.current
state_after name p (ApplyStarts d) = p.current
state_after name p (CleanupStarts d) = p.current
state_after name p (CleanupEnds d ok) = p.current
state_after name p (Send d) = p.current

abbrev pub with_decision : List ℕ → Option LifeState → List Decided → List Decided
with_decision name None ds = ds
with_decision name (Some state) ds = ds ++ decided_on name state ∷ []

abbrev pub decisions_after : List ℕ → Past → LifeStep → List Decided
decisions_after name p (Decide sight) = with_decision name (state_at p sight) p.decisions
decisions_after name p (Other finalizers) = p.decisions
decisions_after name p RequestDelete = p.decisions
decisions_after name p (ApplyStarts d) = p.decisions
decisions_after name p (CleanupStarts d) = p.decisions
decisions_after name p (CleanupEnds d ok) = p.decisions
decisions_after name p (Send d) = p.decisions
decisions_after name p (Arrive n) = p.decisions

abbrev pub started_by : LifeStep → List ℕ
started_by (CleanupStarts d) = d ∷ []
started_by (Other finalizers) = []
started_by RequestDelete = []
started_by (Decide sight) = []
started_by (ApplyStarts d) = []
started_by (CleanupEnds d ok) = []
started_by (Send d) = []
started_by (Arrive n) = []

abbrev pub cleaned_by : LifeStep → List ℕ
cleaned_by (CleanupEnds d true) = d ∷ []
cleaned_by (CleanupEnds d false) = []
cleaned_by (CleanupStarts d) = []
cleaned_by (Other finalizers) = []
cleaned_by RequestDelete = []
cleaned_by (Decide sight) = []
cleaned_by (ApplyStarts d) = []
cleaned_by (Send d) = []
cleaned_by (Arrive n) = []

abbrev pub sent_by : LifeStep → List ℕ
sent_by (Send d) = d ∷ []
sent_by (CleanupEnds d ok) = []
sent_by (CleanupStarts d) = []
sent_by (Other finalizers) = []
sent_by RequestDelete = []
sent_by (Decide sight) = []
sent_by (ApplyStarts d) = []
sent_by (Arrive n) = []

abbrev pub after : List ℕ → Past → LifeStep → Past
after name p step = record {
  before = p.before ++ p.current ∷ [];
  current = state_after name p step;
  decisions = decisions_after name p step;
  started = p.started ++ started_by step;
  cleaned = p.cleaned ++ cleaned_by step;
  sent = p.sent ++ sent_by step;
}

-- ---- which step may follow

abbrev pub is_there : Option LifeState → Bool
is_there None = false
is_there (Some state) = not state.gone

abbrev pub is_among : ℕ → List ℕ → Bool
is_among n ns = list_any (λ m. m == n) ns

-- it asks for an Apply
abbrev pub applies : Decision → Bool
applies Apply = true
applies (Cleanup i) = false
applies AddFirst = false
applies AddMore = false
applies Nothing = false
applies Unnamed = false

-- it asks for a Cleanup
abbrev pub cleans : Decision → Bool
cleans (Cleanup i) = true
cleans Apply = false
cleans AddFirst = false
cleans AddMore = false
cleans Nothing = false
cleans Unnamed = false

-- its patch may be sent: that of a Cleanup only after one of this decision succeeded
abbrev pub may_send : Bool → Decision → Bool
may_send has_cleaned (Cleanup i) = has_cleaned
may_send has_cleaned AddFirst = true
may_send has_cleaned AddMore = true
may_send has_cleaned Apply = false
may_send has_cleaned Nothing = false
may_send has_cleaned Unnamed = false

-- there is such a decision
abbrev pub is_made : (Decision → Bool) → Option Decided → Bool
is_made p None = false
is_made p (Some d) = p d.decision

-- another party leaves the name's entries as they are; a decision is on a state in which the object was there; a Cleanup ends that has started; a patch arrives that was sent, later, often or never
abbrev pub may_follow : List ℕ → Past → LifeStep → Bool
may_follow name p (Other finalizers) = not p.current.gone && count_of name finalizers == count_of name p.current.finalizers
may_follow name p RequestDelete = not p.current.gone
may_follow name p (Decide sight) = is_there (state_at p sight)
may_follow name p (ApplyStarts d) = is_made applies (decision_at p d)
may_follow name p (CleanupStarts d) = is_made cleans (decision_at p d)
may_follow name p (CleanupEnds d ok) = is_among d p.started
may_follow name p (Send d) = is_made (may_send (is_among d p.cleaned)) (decision_at p d)
may_follow name p (Arrive n) = nat_lt n (length p.sent)

-- ---- lives

-- each step may follow those before it
abbrev pub is_life_from : List ℕ → Past → List LifeStep → Bool
is_life_from name p [] = true
is_life_from name p (step ∷ steps) = may_follow name p step && is_life_from name (after name p step) steps

abbrev pub is_life : List ℕ → List LifeStep → Bool
is_life name life = is_life_from name beginning life

-- what a life came to
abbrev pub past_of : List ℕ → List LifeStep → Past
past_of name life = fold (after name) beginning life

-- a step in which an Apply starts
abbrev pub starts_apply : LifeStep → Bool
starts_apply (ApplyStarts d) = true
starts_apply (Other finalizers) = false
starts_apply RequestDelete = false
starts_apply (Decide sight) = false
starts_apply (CleanupStarts d) = false
starts_apply (CleanupEnds d ok) = false
starts_apply (Send d) = false
starts_apply (Arrive n) = false

-- a step in which a Cleanup succeeds
abbrev pub ends_cleanup : LifeStep → Bool
ends_cleanup (CleanupEnds d ok) = ok
ends_cleanup (Other finalizers) = false
ends_cleanup RequestDelete = false
ends_cleanup (Decide sight) = false
ends_cleanup (ApplyStarts d) = false
ends_cleanup (CleanupStarts d) = false
ends_cleanup (Send d) = false
ends_cleanup (Arrive n) = false
