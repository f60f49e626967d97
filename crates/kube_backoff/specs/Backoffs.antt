-- How long to wait after failures, in nanoseconds. (Crate: `ExponentialBackoff`, `ResetTimerBackoff`, `DefaultBackoff`.)
use Rattle.std.specs.Prelude.{ℕ, ◌*◌, ◌/◌, ◌-◌, ◌^◌, Bool, false, min, nat_lt, Option, Some, None, if◌then◌else◌}

-- a sum that stops at the greatest u64
abbrev pub saturated : ℕ → ℕ
saturated n = min n (2 ^ 64 - 1)

-- the first delay, the ratio by which delays grow, the greatest one, and the last one
pub record Exponential : Type 0 where
  pub min : ℕ
  pub num : ℕ
  pub den : ℕ
  pub cap : ℕ
  pub last : Option ℕ

abbrev pub grown_delay : Exponential → Option ℕ → ℕ
grown_delay e None = e.min
grown_delay e (Some last) = (last * e.num) / e.den

-- the next delay: the first one, or the last times the ratio, rounded down, and never more than the greatest
abbrev pub next_delay : Exponential → ℕ
next_delay e = min e.cap (grown_delay e e.last)

abbrev pub restarted_exponential : Exponential → Exponential
restarted_exponential e = record e { last = None }

-- a backoff, when it was asked last, and after how long it begins anew
pub record ResetTimer (B : Type 0) : Type 0 where
  pub inner : B
  pub last : Option ℕ
  pub reset : ℕ

-- whether strictly more than this passed since then
abbrev pub is_long_ago : Option ℕ → ℕ → ℕ → Bool
is_long_ago None reset now = false
is_long_ago (Some last) reset now = nat_lt reset (now - last)

-- the backoff that is asked now: begun anew where it was asked too long ago
abbrev pub asked_at : {B : Type 0} → (B → B) → ResetTimer B → ℕ → B
asked_at restarted b now = if is_long_ago b.last b.reset now then restarted b.inner else b.inner

-- from 800 ms by a factor of 2 to 30 s, and anew after 120 s
abbrev pub default_backoff : ResetTimer Exponential
default_backoff = record {
  inner = record { min = 800000000; num = 2; den = 1; cap = 30000000000; last = None };
  last = None;
  reset = 120000000000;
}
