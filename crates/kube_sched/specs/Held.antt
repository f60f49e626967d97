-- Lists of messages with their times.
use Rattle.std.specs.Prelude.{◌≡◌, get_or, ℕ, zero, suc, Bool, true, false, not, ◌&&◌, nat_le, nat_lt, List, [], ◌∷◌, ◌++◌, map, Option, Some, None, if◌then◌else◌}
use Rattle.std.specs.List.{list_any, filter}
use Rattle.kube_meta.specs.declared.moment.Moment.{Moment}
use Rattle.kube_sched.specs.declared.held.Held.{Held}

abbrev pub messages : {M : Type 0} → List (Held M) → List M
messages hs = map (λ h. h.message) hs

-- whether it is of this message
abbrev pub is_of : {M : Type 0} → (M → M → Bool) → M → Held M → Bool
is_of same m h = same h.message m

-- whether its time has come
abbrev pub is_due : {M : Type 0} → Moment → Held M → Bool
is_due now h = nat_le h.time.0 now.0

-- whether it is of this message and earlier than a moment
abbrev pub is_earlier : {M : Type 0} → (M → M → Bool) → M → Moment → Held M → Bool
is_earlier same m moment h = same h.message m && nat_lt h.time.0 moment.0

-- whether one is due before another
abbrev pub comes_before : {M : Type 0} → Held M → Held M → Bool
comes_before a b = nat_lt a.time.0 b.time.0

-- with this one in place of those of its message, unless one of them is earlier than `run_at`
abbrev pub set_in : {M : Type 0} → (M → M → Bool) → Moment → Held M → List (Held M) → List (Held M)
set_in same run_at held hs =
    if list_any (is_earlier same held.message run_at) hs then hs
    else filter (λ h. not (same h.message held.message)) hs ++ held ∷ []

-- the place of the first that passes
abbrev pub IsFirstAt : {M : Type 0} → (M → Bool → Type 0) → List M → Option ℕ → Type 0
IsFirstAt passes [] None = Unit {0}
IsFirstAt passes (m ∷ ms) None = passes m false × IsFirstAt passes ms None
IsFirstAt passes [] (Some place) = ⊥
IsFirstAt passes (m ∷ ms) (Some zero) = passes m true
IsFirstAt passes (m ∷ ms) (Some (suc place)) = passes m false × IsFirstAt passes ms (Some place)

-- what a request for a message leaves of what is scheduled: a message that waits stays as it is
abbrev pub requested_with : {M : Type 0} → (M → M → Bool) → Moment → Held M → List (Held M) → List (Held M) → List (Held M)
requested_with same run_at held waiting hs = if list_any (is_of same held.message) waiting then hs else set_in same run_at held hs

-- whether one of this message is scheduled for this moment or later
abbrev pub is_later : {M : Type 0} → (M → M → Bool) → M → Moment → List (Held M) → Bool
is_later same m run_at hs = list_any (λ h. same h.message m && nat_le run_at.0 h.time.0) hs

-- the message of the one at a place
pub record MessageAt {M : Type 0} (hs : List (Held M)) (place : ℕ) (message : M) : Type 0 where
  pub held : Held M
  pub is : held ≡ get_or hs place held
  pub of : message ≡ held.message
