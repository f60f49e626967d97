-- How long the controller of a script pauses after an error, in nanoseconds. (Crate: `DefaultBackoff`, `StopBackoff`, `ExponentialBackoff`.)
use Rattle.std.specs.Prelude.{ℕ, Option, Some, None}
use Rattle.kube_backoff.specs.Backoffs.{Exponential as Growing, asked_at, default_backoff, next_delay, restarted_exponential}
use Rattle.kube_backoff.specs.declared.plain_backoffs.StopBackoff.{StopBackoff}
use Rattle.kube_script.specs.Script as script
use Rattle.kube_script.specs.declared.backoff.ScriptBackoff.{ScriptBackoff}
use Rattle.kube_script.specs.declared.backoff.ScriptBackoff.TheVariants.{ByDefault, Stopping, Exponential}

-- the backoff that a script names, before its first delay
abbrev pub backoff_of : script.Backoff → ScriptBackoff
backoff_of script.ByDefault = ByDefault default_backoff
backoff_of script.Stopping = Stopping (record {})
backoff_of (script.Exponential min num den cap) = Exponential (record { min = min; num = num; den = den; cap = cap; last = None })

-- the next delay at a moment, or none where it gives up
abbrev pub delay_at : ScriptBackoff → ℕ → Option ℕ
delay_at (ByDefault b) now = Some (next_delay (asked_at restarted_exponential b now))
delay_at (Stopping b) now = None
delay_at (Exponential e) now = Some (next_delay e)

-- the state after that delay
abbrev pub delayed_at : ScriptBackoff → ℕ → ScriptBackoff
delayed_at (ByDefault b) now =
    let e = asked_at restarted_exponential b now in
    ByDefault (record b { inner = record e { last = Some (next_delay e) }; last = Some now })
delayed_at (Stopping b) now = Stopping b
delayed_at (Exponential e) now = Exponential (record e { last = Some (next_delay e) })

-- the state after a reset
abbrev pub begun_anew : ScriptBackoff → ScriptBackoff
begun_anew (ByDefault b) = ByDefault (record b { inner = restarted_exponential b.inner })
begun_anew (Stopping b) = Stopping b
begun_anew (Exponential e) = Exponential (restarted_exponential e)
