-- What is left of a scripted watch at a place in its steps: the step's number, and how much of it is past.
use Rattle.std.specs.Prelude.{ℕ, ◌-◌, nat_le, ◌≡◌, Bool, false, List, [], ◌∷◌, ◌++◌, map, drop, length, unwrap_or}
use Rattle.kube_api.specs.declared.sequence.SequenceStep.{SequenceStep}
use Rattle.kube_api.specs.declared.sequence.SequenceStep.TheVariants.{List as ListStep, Wait}
use Rattle.kube_api.specs.declared.place.Place.{Place}
use Rattle.kube_api.specs.TestScript.{Pauses, OpenedWatch, just_opened}
use Rattle.kube_api.specs.Sequences.{given_step, steps_of}

abbrev pub left_from : {K : Type 0} → Place → List (SequenceStep K) → OpenedWatch K
left_from place [] = just_opened []
left_from place (ListStep events ∷ rest) = just_opened (drop place.given (map given_step events.items) ++ steps_of rest)
left_from place (Wait nanos ∷ rest) = record { steps = Pauses nanos ∷ steps_of rest; since = place.since }

abbrev pub left_at : {K : Type 0} → List (SequenceStep K) → Place → OpenedWatch K
left_at steps place = left_from place (drop place.step steps)

-- whether a step has no answer left at a moment
abbrev pub is_over : {K : Type 0} → ℕ → Place → SequenceStep K → Bool
is_over now place (ListStep events) = nat_le (length events.items) place.given
is_over now place (Wait nanos) = nat_le nanos (now - unwrap_or place.since now)

-- the step at its head is not over
abbrev pub Stands : {K : Type 0} → ℕ → Place → List (SequenceStep K) → Type 0
Stands now place [] = Unit {0}
Stands now place (step ∷ rest) = is_over now place step ≡ false
