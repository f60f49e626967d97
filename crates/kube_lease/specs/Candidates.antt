-- What contracts see of a candidate, and what it learns. (client-go: `LeaderElector`.)
use Rattle.std.specs.Prelude.{◌≡◌, ℕ, ◌==◌, nat_lt, Bool, false, ◌&&◌, ◌||◌, List, Option, Some, None, Result, Ok, Err, cond}
use Rattle.kube_lease.specs.declared.candidate.Claim.{Claim}
use Rattle.kube_lease.specs.declared.candidate.LeaseDecision.{LeaseDecision}
use Rattle.kube_lease.specs.declared.candidate.LeaseDecision.TheVariants as decisions
use Rattle.kube_lease.specs.Leases.{Choice, Unseen, Renew, Wait, LastTerm, Take, Lease, is_holder}

-- its id, the name of the lease, how long it holds it, the lease that it observed last, and the greatest claim that it observed
pub record Standing : Type 0 where
  pub id : List ℕ
  pub lease : List ℕ
  pub duration : ℕ
  pub seen : Option Lease
  pub claim : Option Claim

-- one that has observed nothing
abbrev pub standing : List ℕ → List ℕ → ℕ → Standing
standing id lease duration = record { id = id; lease = lease; duration = duration; seen = None; claim = None }

-- of a later term, or of the same and longer
abbrev pub is_above : Claim → Claim → Bool
is_above a b = nat_lt b.term a.term || (a.term == b.term && nat_lt b.until a.until)

abbrev pub greater : Option Claim → Claim → Claim
greater None b = b
greater (Some a) b = cond (is_above a b) a b

abbrev pub claim_on : Lease → Claim
claim_on l = record { term = l.term; until = l.until }

-- the claim of a candidate that observes a lease: the greater one, where it is the holder
abbrev pub claim_after : List ℕ → Lease → Option Claim → Option Claim
claim_after id l claim = cond (is_holder id l) (Some (greater claim (claim_on l))) claim

abbrev pub having_observed : Lease → Standing → Standing
having_observed l s = record s { seen = Some l; claim = claim_after s.id l s.claim }

-- it observes what an object is, which is a lease
abbrev pub IsObserved : Result Lease (List ℕ) → Standing → Standing → Type 0
IsObserved (Ok l) s s' = s' ≡ having_observed l s
IsObserved (Err place) s s' = ⊥

-- whether its claim lasts past a moment
abbrev pub may_act_at : Option Claim → ℕ → Bool
may_act_at None now = false
may_act_at (Some claim) now = nat_lt now claim.until

abbrev pub choice_in : LeaseDecision → Choice
choice_in decisions.Unseen = Unseen
choice_in decisions.Renew = Renew
choice_in (decisions.Wait until) = Wait until.0
choice_in decisions.LastTerm = LastTerm
choice_in decisions.Take = Take
