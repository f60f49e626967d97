-- What sources and sinks in memory show.
use Rattle.std.specs.Prelude.{ℕ, List, Bool, ◌+◌, ◌-◌, ◌^◌, min, nat_eq}
use Rattle.std.specs.List.{list_any}

-- the bytes that a source has left or a sink was given, the numbers of the calls that are to fail, how many calls there
-- were, and how often one failed
pub record Held : Type 0 where
  pub bytes : List ℕ
  pub failing : List ℕ
  pub calls : ℕ
  pub faults : ℕ

-- the number of the next call, which stands still at the greatest u64
abbrev pub next_call : Held → ℕ
next_call h = min (h.calls + 1) (2 ^ 64 - 1)

-- whether the next call is one of those that are to fail
abbrev pub is_to_fail : Held → Bool
is_to_fail h = list_any (λ n. nat_eq n (next_call h)) h.failing
