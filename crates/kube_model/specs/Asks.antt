-- Who is asked next, and why a source is asked no more: from the exchanges before a turn, those of it, its budget and its moment alone. A shutdown that was asked is told apart. O is the type of objects. (Crate: `trigger_with` merges streams; here each source is asked in its turn.)
use Rattle.std.specs.Prelude.{ℕ, ◌+◌, ◌-◌, Bool, not, ◌&&◌, ◌||◌, nat_lt, List, ◌++◌, length, map, Option, Some, None, if◌then◌else◌, slice_index}
use Rattle.std.specs.List.{list_any, find, range_with_len}
use Rattle.kube_model.specs.declared.turn.Stop.{Stop}
use Rattle.kube_model.specs.declared.turn.Stop.TheVariants as stops
use Rattle.kube_model.specs.World.{World, is_watched, feed_of}
use Rattle.kube_model.specs.History.{Dated, dated_of}
use Rattle.kube_model.specs.Cuts.{last}
use Rattle.kube_model.specs.Owed.{is_not_ready, is_end}
use Rattle.kube_model.specs.Pause.{gave_up, is_paused}

-- whether a source told not ready among these
abbrev pub told_not_ready : {O : Type 0} → ℕ → List (Dated O) → Bool
told_not_ready source ds = list_any (λ d. is_not_ready d.exchange.answer) (dated_of source ds)

-- whether a source has made fewer exchanges of these than its budget; a missing budget is 0
abbrev pub has_budget : {O : Type 0} → List ℕ → List (Dated O) → ℕ → Bool
has_budget budget ds source = nat_lt (length (dated_of source ds)) (slice_index budget source)

module _ {O B : Type 0} (w : World O B) where
  abbrev pub sources : ℕ
  sources = length w.feeds

  -- a stream or a queue that has answered its end counts from then on as one that told not ready
  abbrev pub has_run_dry : List (Dated O) → ℕ → Bool
  has_run_dry ds source = not (is_watched (feed_of w source)) && list_any (λ d. is_end d.exchange.answer) (dated_of source ds)

  -- the sources from the one after that of the latest exchange on, or from the root on
  abbrev pub in_turn_after : Option (Dated O) → List ℕ
  in_turn_after None = range_with_len 0 sources
  in_turn_after (Some d) =
      range_with_len (d.exchange.source + 1) (sources - (d.exchange.source + 1)) ++ range_with_len 0 (d.exchange.source + 1)

  abbrev pub in_turn : List (Dated O) → List ℕ
  in_turn ds = in_turn_after (last ds)

  -- In a turn after the exchanges before it, with those that it made.
  module _ (budget : List ℕ) (before mine : List (Dated O)) where
    abbrev pub is_quiet : ℕ → Bool
    is_quiet source = told_not_ready source mine || has_run_dry (before ++ mine) source

    abbrev pub may_be_asked : ℕ → Bool
    may_be_asked source = has_budget budget mine source && not (is_quiet source)

    -- the source that is asked next: none where the backoff gave up or pauses
    abbrev pub next_asked : ℕ → Option ℕ
    next_asked at =
        if gave_up w (before ++ mine) || is_paused w at (before ++ mine) then None
        else find may_be_asked (in_turn (before ++ mine))

    -- why a source is asked no more, where shutdown was asked or wasn't
    abbrev pub stop_of : Bool → ℕ → Stop
    stop_of shut source =
        if is_quiet source then stops.NotReady
        else if shut || gave_up w (before ++ mine) then stops.Shutdown
        else if has_budget budget mine source then stops.Paused
        else stops.Budget

    abbrev pub stops_of : Bool → List Stop
    stops_of shut = map (stop_of shut) (range_with_len 0 sources)
