-- When a controller's end was asked, or given up. O is the type of objects.
use Rattle.std.specs.Prelude.{Bool, true, false, ◌||◌, List}
use Rattle.std.specs.List.{list_any}
use Rattle.kube_model.specs.declared.turn.Shutdown.{Shutdown}
use Rattle.kube_model.specs.declared.turn.Shutdown.TheVariants.{No, Graceful, Forced}
use Rattle.kube_model.specs.World.{World}
use Rattle.kube_model.specs.History.{Exchange, Turn, Step, exchanges, exchanges_with}
use Rattle.kube_model.specs.Pause.{gave_up}

abbrev pub asks_shutdown : Shutdown → Bool
asks_shutdown No = false
asks_shutdown Graceful = true
asks_shutdown Forced = true

abbrev pub is_forced : Shutdown → Bool
is_forced No = false
is_forced Graceful = false
is_forced Forced = true

-- whether shutdown was asked
abbrev pub is_shut : {O : Type 0} → List (Step O) → Bool
is_shut h = list_any (λ s. asks_shutdown s.turn.shutdown) h

module _ {O B : Type 0} (w : World O B) where
  -- whether a turn makes no requests and asks nothing: shutdown is asked, or was asked or given up before
  abbrev pub is_closed : List (Step O) → Turn → Bool
  is_closed h t = is_shut h || asks_shutdown t.shutdown || gave_up w (exchanges h)

  -- whether shutdown was asked or given up by now, with these exchanges of the turn
  abbrev pub is_over : List (Step O) → Turn → List (Exchange O) → Bool
  is_over h t xs = is_shut h || asks_shutdown t.shutdown || gave_up w (exchanges_with h t xs)
