-- Worked elections.
use Rattle.std.specs.Prelude.{ℕ, List, [], ◌∷◌, codes}
use Rattle.kube_lease.specs.declared.election.Entrant.{Entrant}
use Rattle.kube_lease.specs.declared.election.LeaseStep.{LeaseStep}
use Rattle.kube_lease.specs.declared.election.LeaseStep.TheVariants.{Tick, Observe, Send, Arrive, Reply}
use Rattle.kube_lease.specs.Leases.{Lease}

abbrev pub x : List ℕ
x = codes "x"

abbrev pub y : List ℕ
y = codes "y"

abbrev pub entrant : List ℕ → Entrant
entrant id = record { id = id; duration = 10 }

abbrev pub both : List Entrant
both = entrant x ∷ entrant y ∷ []

abbrev pub held_by : List ℕ → ℕ → ℕ → Lease
held_by id term until = record { holder = id; term = term; until = until }

-- the first takes the lease at 0 and renews it at 5, and its reply comes; the second saw it before that
abbrev pub renewed_at_5 : List LeaseStep
renewed_at_5 = Observe 0 0 ∷ Send 0 ∷ Arrive 0 ∷ Reply 0 0 ∷ Observe 1 1 ∷ Tick 5 ∷ Send 0 ∷ Arrive 1 ∷ Reply 0 1 ∷ []

-- the second tries to take it at 10
abbrev pub tried_at_10 : List LeaseStep
tried_at_10 = Tick 5 ∷ Send 1 ∷ Arrive 2 ∷ []

-- and, once it has observed the renewal, takes it at 15
abbrev pub taken_at_15 : List LeaseStep
taken_at_15 = Tick 5 ∷ Observe 1 2 ∷ Send 1 ∷ Arrive 3 ∷ Reply 1 3 ∷ []

-- the first takes the lease at 0, and its reply is lost
abbrev pub lost_reply : List LeaseStep
lost_reply = Observe 0 0 ∷ Send 0 ∷ Arrive 0 ∷ Tick 3 ∷ []

-- it observes the lease at 3
abbrev pub observed_at_3 : List LeaseStep
observed_at_3 = Observe 0 1 ∷ []
