-- What is kept of the asks, and how it follows the exchanges. B is the type of a backoff's states.
use Rattle.std.specs.Prelude.{◌≡◌, ℕ, zero, suc, ◌+◌, ◌-◌, ◌≤◌, ◌==◌, nat_lt, Bool, true, false, not, ◌&&◌, ◌||◌, List, [], ◌∷◌, ◌++◌, length, Option, is_some, unwrap_or, if◌then◌else◌, slice_get, slice_index, slice_set}
use Rattle.std.specs.List.{range_with_len}
use Rattle.kube_model.specs.declared.turn.Stop.{Stop}
use Rattle.kube_model.specs.declared.turn.Stop.TheVariants as stops
use Rattle.kube_model.specs.World.{World, Feed, is_queue}
use Rattle.kube_model.specs.History.{Dated, Exchange, dated_of}
use Rattle.kube_model.specs.Pause.{Pause, pause_of, pause_asked, has_requests}
use Rattle.kube_model.specs.Owed.{is_not_ready, is_end}
use Rattle.kube_model.specs.Asks.{told_not_ready, has_run_dry, in_turn}
use Rattle.kube_asks.specs.Sources.{is_stream}

-- the pause, the number after that of the source asked last, what is left of each budget, and marks of the sources that told not ready in this turn and of those that have ended
pub record AskKept (B : Type 0) : Type 0 where
  pub pause : Pause B
  pub after : ℕ
  pub left : List ℕ
  pub quiet : List Bool
  pub dry : List Bool

-- all that is left of the budgets
abbrev pub total : List ℕ → ℕ
total [] = 0
total (n ∷ ns) = n + total ns

-- whether this source is marked; one for which there is no mark is not
abbrev pub is_marked : List Bool → ℕ → Bool
is_marked marks source = unwrap_or (slice_get marks source) false

-- with this one marked too
abbrev pub with_mark : List Bool → ℕ → List Bool
with_mark [] zero = true ∷ []
with_mark [] (suc source) = false ∷ with_mark [] source
with_mark (m ∷ ms) zero = true ∷ ms
with_mark (m ∷ ms) (suc source) = m ∷ with_mark ms source

-- By what is kept.

-- whether this source told not ready in the turn or has ended
abbrev pub is_quiet_by : {B : Type 0} → AskKept B → ℕ → Bool
is_quiet_by k source = is_marked k.quiet source || is_marked k.dry source

abbrev pub has_budget_by : {B : Type 0} → AskKept B → ℕ → Bool
has_budget_by k source = nat_lt 0 (slice_index k.left source)

abbrev pub may_ask_by : {B : Type 0} → AskKept B → ℕ → Bool
may_ask_by k source = has_budget_by k source && not (is_quiet_by k source)

-- why it is asked no more, where shutdown was asked or wasn't
abbrev pub stop_by : {B : Type 0} → AskKept B → Bool → ℕ → Stop
stop_by k shut source =
    if is_quiet_by k source then stops.NotReady
    else if shut || k.pause.given_up then stops.Shutdown
    else if has_budget_by k source then stops.Paused
    else stops.Budget

-- what is kept is what these exchanges leave, those before a turn with this budget and those of it
pub record IsKept {O B : Type 0} (w : World O B) (budget : List ℕ) (before mine : List (Dated O)) (k : AskKept B) : Type 0 where
  pub pause : k.pause ≡ pause_of w (before ++ mine)
  pub order : in_turn w (before ++ mine) ≡ range_with_len k.after (length w.feeds - k.after) ++ range_with_len 0 k.after
  pub small : k.after ≤ length w.feeds
  pub left : (source : ℕ) → slice_index k.left source ≡ slice_index budget source - length (dated_of source mine)
  pub quiet : (source : ℕ) → is_marked k.quiet source ≡ told_not_ready source mine
  pub dry : (source : ℕ) → is_marked k.dry source ≡ has_run_dry w (before ++ mine) source

-- before the first turn
abbrev pub at_first : {B : Type 0} → B → AskKept B
at_first backoff = record { pause = record { backoff = backoff; over_at = 0; given_up = false }; after = 0; left = []; quiet = []; dry = [] }

-- at the beginning of a turn with this budget
abbrev pub begun : {B : Type 0} → AskKept B → List ℕ → AskKept B
begun k budget = record k { left = budget; quiet = [] }

-- After one more exchange.

abbrev pub reset_where : {B : Type 0} → (B → B) → Bool → Pause B → Pause B
reset_where restarted any p = if any then record p { backoff = restarted p.backoff } else p

abbrev pub asked_where : {B : Type 0} → (B → ℕ → Option ℕ) → (B → ℕ → B) → Bool → Pause B → ℕ → Pause B
asked_where delay delayed failed p at = if failed then pause_asked p at (delay p.backoff at, delayed p.backoff at) else p

-- an error asks the backoff and a request resets it; at the end of a queue it counts as given up
abbrev pub pause_noted : {O B : Type 0} → (B → ℕ → Option ℕ) → (B → ℕ → B) → (B → B) → Bool → Pause B → ℕ → Exchange O → Pause B
pause_noted delay delayed restarted true p at x = if is_end x.answer then record p { given_up = true } else p
pause_noted delay delayed restarted false p at x = reset_where restarted (has_requests x) (asked_where delay delayed (is_some x.error) p at)

abbrev pub is_stream_end : {O : Type 0} → Exchange O → Bool
is_stream_end x = is_stream x.call && is_end x.answer

abbrev pub marked_where : Bool → List Bool → ℕ → List Bool
marked_where b marks source = if b then with_mark marks source else marks

-- one of this source is used up
abbrev pub spent_at : List ℕ → ℕ → List ℕ
spent_at left source = slice_set left source (slice_index left source - 1)

-- what is kept after an exchange of this source
abbrev pub noted : {O B : Type 0} → (B → ℕ → Option ℕ) → (B → ℕ → B) → (B → B) → Bool → AskKept B → ℕ → ℕ → Exchange O → AskKept B
noted delay delayed restarted queue k at source x = record {
  pause = pause_noted delay delayed restarted queue k.pause at x;
  after = source + 1;
  left = spent_at k.left source;
  quiet = marked_where (is_not_ready x.answer) k.quiet source;
  dry = marked_where (is_stream_end x) k.dry source;
}

-- whether it is a root whose end gives up and which nothing pauses
abbrev pub is_root_queue : Feed → ℕ → Bool
is_root_queue feed source = (source == 0) && is_queue feed
