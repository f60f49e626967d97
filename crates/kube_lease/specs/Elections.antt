-- An election: what happens to one lease object, step by step, where candidates hold it in turn by tested patches.
use Rattle.std.specs.Prelude.{◌≡◌, ℕ, ◌+◌, ◌^◌, ◌==◌, nat_lt, Bool, true, false, not, ◌&&◌, ◌||◌, List, [], ◌∷◌, ◌++◌, length, slice_get, Option, Some, None, is_some, cond}
use Rattle.std.specs.List.{fold}
use Rattle.std.specs.Str.{bytes_eq}
use Rattle.kube_lease.specs.declared.election.Entrant.{Entrant}
use Rattle.kube_lease.specs.declared.election.LeaseStep.{LeaseStep}
use Rattle.kube_lease.specs.declared.election.LeaseStep.TheVariants.{Tick, Observe, Send, Arrive, Reply}
use Rattle.kube_lease.specs.Leases.{Choice, Unseen, Renew, Wait, LastTerm, Take, Lease, choice, renewed, taken, unheld}

-- ---- candidates

-- each has an id, and no other one has it
pub record AreEntrants (es : List Entrant) : Type 0 where
  pub named : (c : ℕ) (e : Entrant) → slice_get es c ≡ Some e → e.id ≡ [] → ⊥
  pub different : (c d : ℕ) (e f : Entrant) → slice_get es c ≡ Some e → slice_get es d ≡ Some f → e.id ≡ f.id → c ≡ d

-- ---- what came before a step

-- a patch that was sent: by which candidate, whether it renews, so that it tests the holder too, the lease that was seen, and the one that it makes
pub record Sent : Type 0 where
  pub by : ℕ
  pub renews : Bool
  pub seen : Lease
  pub makes : Lease

-- the server's moment; how the lease stood before each change, and stands; which candidate observed which lease, the latest first; the patches that were sent, in order; and which patch made which lease, in order
pub record Past : Type 0 where
  pub now : ℕ
  pub before : List Lease
  pub current : Lease
  pub observed : List (ℕ × Lease)
  pub sent : List Sent
  pub made : List (ℕ × Lease)

abbrev pub beginning : Past
beginning = record { now = 0; before = []; current = unheld; observed = []; sent = []; made = [] }

-- how the lease stood so far, the oldest first
abbrev pub leases : Past → List Lease
leases p = p.before ++ p.current ∷ []

-- the first under a number
abbrev pub under : ℕ → List (ℕ × Lease) → Option Lease
under n [] = None
under n (x ∷ xs) = cond (x.0 == n) (Some x.1) (under n xs)

-- ---- what a step does

abbrev pub observed_by : ℕ → Option Lease → List (ℕ × Lease) → List (ℕ × Lease)
observed_by c None observed = observed
observed_by c (Some l) observed = (c, l) ∷ observed

-- the patch of a decision on a lease, if it has one
abbrev pub sent_for : ℕ → Entrant → ℕ → Lease → Choice → List Sent
sent_for c e now l Renew = record { by = c; renews = true; seen = l; makes = renewed e.duration now l } ∷ []
sent_for c e now l Take = record { by = c; renews = false; seen = l; makes = taken e.id e.duration now l } ∷ []
sent_for c e now l Unseen = []
sent_for c e now l (Wait until) = []
sent_for c e now l LastTerm = []

-- what a candidate sends that observed this lease last, or none
abbrev pub sent_on : ℕ → Entrant → ℕ → Option Lease → List Sent
sent_on c e now None = []
sent_on c e now (Some l) = sent_for c e now l (choice e.id e.duration now (Some l))

abbrev pub sent_by : Past → ℕ → Option Entrant → List Sent
sent_by p c None = []
sent_by p c (Some e) = sent_on c e p.now (under c p.observed)

-- its tests pass: of the term and of until, and of the holder where it renews
abbrev pub passes : Sent → Lease → Bool
passes s l = (s.seen.term == l.term && s.seen.until == l.until) && (not s.renews || bytes_eq s.seen.holder l.holder)

abbrev pub changed : Past → ℕ → Lease → Past
changed p n l = record p { before = p.before ++ p.current ∷ []; current = l; made = p.made ++ (n, l) ∷ [] }

-- a patch that arrives whose tests don't pass changes nothing
abbrev pub arrived : Past → ℕ → Option Sent → Past
arrived p n None = p
arrived p n (Some s) = cond (passes s p.current) (changed p n s.makes) p

abbrev pub after : List Entrant → Past → LeaseStep → Past
after es p (Tick by) = record p { now = p.now + by }
after es p (Observe c n) = record p { observed = observed_by c (slice_get (leases p) n) p.observed }
after es p (Send c) = record p { sent = p.sent ++ sent_by p c (slice_get es c) }
after es p (Arrive n) = arrived p n (slice_get p.sent n)
after es p (Reply c n) = record p { observed = observed_by c (under n p.made) p.observed }

-- ---- which step may follow

abbrev pub is_some_patch : List Sent → Bool
is_some_patch [] = false
is_some_patch (s ∷ ss) = true

abbrev pub is_by : ℕ → Option Sent → Bool
is_by c None = false
is_by c (Some s) = s.by == c

-- a candidate observes how the lease stands or stood; one sends whose decision has a patch; a patch arrives that was sent, later, often or never; and who sent it observes what it made, unless the reply is lost
abbrev pub may_follow : List Entrant → Past → LeaseStep → Bool
may_follow es p (Tick by) = nat_lt (p.now + by) (2 ^ 64)
may_follow es p (Observe c n) = nat_lt c (length es) && nat_lt n (length (leases p))
may_follow es p (Send c) = is_some_patch (sent_by p c (slice_get es c))
may_follow es p (Arrive n) = nat_lt n (length p.sent)
may_follow es p (Reply c n) = is_by c (slice_get p.sent n) && is_some (under n p.made)

-- ---- elections

-- each step may follow those before it
abbrev pub is_election_from : List Entrant → Past → List LeaseStep → Bool
is_election_from es p [] = true
is_election_from es p (step ∷ steps) = may_follow es p step && is_election_from es (after es p step) steps

abbrev pub is_election : List Entrant → List LeaseStep → Bool
is_election es steps = is_election_from es beginning steps

-- what an election came to
abbrev pub past_of : List Entrant → List LeaseStep → Past
past_of es steps = fold (after es) beginning steps

-- a candidate has a claim: it observed a lease of this term and this until, whose holder it was
pub record IsClaim (es : List Entrant) (p : Past) (candidate term until : ℕ) : Type 0 where
  pub entrant : Entrant
  pub place : ℕ
  pub lease : Lease
  pub is_entrant : slice_get es candidate ≡ Some entrant
  pub observed : slice_get p.observed place ≡ Some (candidate, lease)
  pub held : lease.holder ≡ entrant.id
  pub in_term : lease.term ≡ term
  pub lasts : lease.until ≡ until
