-- The pause that errors make (crate: `StreamBackoff`): a fold of the backoff over all exchanges.
use Rattle.std.specs.Prelude.{ℕ, Bool, true, false, nat_lt, List, Option, Some, None, if◌then◌else◌, is_some, length}
use Rattle.std.specs.List.{fold}
use Rattle.kube_model.specs.World.{World, Feed, Watched, Streamed, Queued, feed_of}
use Rattle.kube_model.specs.History.{Exchange, Dated}
use Rattle.kube_model.specs.Owed.{is_end}
use Rattle.kube_model.specs.Queue.{plus}

-- the backoff's state, the moment at which the pause ends, and whether the backoff has given up
pub record Pause (B : Type 0) : Type 0 where
  pub backoff : B
  pub over_at : ℕ
  pub given_up : Bool

-- after the backoff was asked at a moment: a duration pauses until so much later, and none gives up
abbrev pub pause_asked : {B : Type 0} → Pause B → ℕ → Option ℕ × B → Pause B
pause_asked p at (Some duration, b) = record { backoff = b; over_at = plus at duration; given_up = p.given_up }
pause_asked p at (None, b) = record { backoff = b; over_at = p.over_at; given_up = true }

abbrev pub has_requests : {O : Type 0} → Exchange O → Bool
has_requests x = nat_lt 0 (length x.requests)

module _ {O B : Type 0} (w : World O B) where
  -- an error asks the backoff
  abbrev pub pause_failed : Pause B → Dated O → Pause B
  pause_failed p d = if is_some d.exchange.error then pause_asked p d.at (w.next p.backoff d.at) else p

  -- a request resets it
  abbrev pub pause_reset : Pause B → Dated O → Pause B
  pause_reset p d = if has_requests d.exchange then record p { backoff = w.reset p.backoff } else p

  -- an applier has no backoff: errors of its queue pause nothing, and its end counts as giving up
  abbrev pub pause_by : Feed → Pause B → Dated O → Pause B
  pause_by (Watched settings) p d = pause_reset (pause_failed p d) d
  pause_by Streamed p d = pause_reset (pause_failed p d) d
  pause_by Queued p d = if is_end d.exchange.answer then record p { given_up = true } else p

  abbrev pub pause_after : Pause B → Dated O → Pause B
  pause_after p d = pause_by (feed_of w d.exchange.source) p d

  abbrev pub pause_of : List (Dated O) → Pause B
  pause_of ds = fold pause_after (record { backoff = w.backoff; over_at = 0; given_up = false }) ds

  abbrev pub gave_up : List (Dated O) → Bool
  gave_up ds = (pause_of ds).given_up

  -- whether all sources are paused at a moment
  abbrev pub is_paused : ℕ → List (Dated O) → Bool
  is_paused at ds = nat_lt at (pause_of ds).over_at
