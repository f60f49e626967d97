-- How a ring is kept: the last references that were offered, and of each subscriber how many of them it has not taken.
use Rattle.std.specs.Prelude.{ℕ, suc, ◌+◌, ◌-◌, ◌^◌, min, Bool, true, false, nat_le, List, [], ◌∷◌, ◌++◌, length, drop, slice_get, slice_set, Option, Some, None, if◌then◌else◌}
use Rattle.std.specs.Option.{option_flatten}
use Rattle.kube_meta.specs.Reference.{Reference}

-- the references that a subscriber has not taken: the last so many
abbrev pub lagging : List Reference → Option ℕ → Option (List Reference)
lagging rs None = None
lagging rs (Some lag) = Some (drop (length rs - lag) rs)

-- whether there are that many references
abbrev pub is_within : ℕ → Option ℕ → Bool
is_within n None = true
is_within n (Some lag) = nat_le lag n

-- whether it lags by so many
abbrev pub reaches : ℕ → Option ℕ → Bool
reaches room None = false
reaches room (Some lag) = nat_le room lag

abbrev pub one_more : Option ℕ → Option ℕ
one_more None = None
one_more (Some lag) = Some (lag + 1)

-- with one more at the end; the first one goes where there are as many as there is room for
abbrev pub pushed : {A : Type 0} → ℕ → List A → A → List A
pushed room rs r = (if (nat_le room (length rs)) then drop 1 rs else rs) ++ r ∷ []

-- the numbers of the subscribers that are there, in order, where the first place is that number
abbrev pub numbers_from : ℕ → List (Option ℕ) → List ℕ
numbers_from n [] = []
numbers_from n (None ∷ lags) = numbers_from (suc n) lags
numbers_from n (Some lag ∷ lags) = n ∷ numbers_from (suc n) lags

-- whether the one with a number lags by so many
abbrev pub reaches_at : ℕ → List (Option ℕ) → ℕ → Bool
reaches_at room lags number = reaches room (option_flatten (slice_get lags number))

-- with one more for the subscriber with a number, as far as 64 bits go
abbrev pub raised_to : ℕ → List (Option ℕ) → Option ℕ → List (Option ℕ)
raised_to number lags None = lags
raised_to number lags (Some lag) = slice_set lags number (Some (min (lag + 1) (2 ^ 64 - 1)))

abbrev pub raised_at : ℕ → List (Option ℕ) → List (Option ℕ)
raised_at number lags = raised_to number lags (option_flatten (slice_get lags number))

abbrev pub raised_all : List ℕ → List (Option ℕ) → List (Option ℕ)
raised_all [] lags = lags
raised_all (number ∷ numbers) lags = raised_all numbers (raised_at number lags)
