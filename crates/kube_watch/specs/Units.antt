-- What one call of a watcher gave, as an exchange of the definitions. V is the type of objects.
use Rattle.std.specs.Prelude.{◌≡◌, ℕ, Bool, List, [], map, Option, None, IsTrue}
use Rattle.std.specs.Option.{option_map}
use Rattle.std.specs.Arc.{arc_value}
use Rattle.kube_meta.specs.declared.moment.Moment.{Moment}
use Rattle.kube_model.specs.declared.call.Call.{Call}
use Rattle.kube_model.specs.declared.call.Answer.{Answer}
use Rattle.kube_model.specs.declared.error.Error.{Error}
use Rattle.kube_model.specs.World.{Settings}
use Rattle.kube_model.specs.History.{Exchange}
use Rattle.kube_model.specs.Owed.{is_next}
use Rattle.kube_model.specs.Fits.{answers, idle_fits, is_window_over, error_of}
use Rattle.kube_model.specs.World.{window_after}
use Rattle.kube_watch.specs.declared.event.Event.{Event}
use Rattle.kube_watch.specs.declared.unit.Exchange.{Exchange as Asked}
use Rattle.kube_watch.specs.declared.unit.Unit.{Unit as Made}
use Rattle.kube_watch.specs.declared.state.State.{State}
use Rattle.kube_watch.specs.Events.{event_map}
use Rattle.kube_watch.specs.States.{call_in, is_initial_in, state_after, since_after}

-- a call with its answer and its error, with no source and no requests
abbrev pub bare : {O : Type 0} → Call → Answer → List O → Option Error → Exchange O
bare call answer items error = record { source = 0; call = call; answer = answer; items = items; requests = []; error = error }

abbrev pub exchange_of : {V : Type 0} → Made V → Exchange V
exchange_of u = bare u.call u.answer (map arc_value u.items) u.error

abbrev pub events_of : {V : Type 0} → Made V → List (Event V)
events_of u = map (event_map arc_value) u.events

-- the same before its events are made
abbrev pub as_exchange : {V : Type 0} → Asked V → Exchange V
as_exchange e = bare e.call e.answer (map arc_value e.items) e.error

-- the error of a call with its answer, which no objects change
abbrev pub error_in : Bool → Call → Answer → Option Error
error_in initial call answer = error_of {O = ℕ} (record { initial = initial; exchange = bare call answer [] None })

abbrev pub nanos_of : Option Moment → Option ℕ
nanos_of since = option_map (λ (m : Moment). m.0) since

-- from this state, silent since that moment or not at all, a watcher may make this exchange now, and comes to that state, silent since that moment
pub record IsMade {V : Type 0} (settings : Settings) (from : State) (since : Option ℕ) (now : ℕ) (u : Asked V) (to : State) (left : Option ℕ) : Type 0 where
  pub initial : u.initial ≡ is_initial_in from
  pub owes : u.call ≡ call_in settings from
  pub answered : IsTrue (answers u.call u.answer)
  pub idle : IsTrue (is_next u.call) → IsTrue (idle_fits (is_window_over (window_after settings.timeout) since now) u.answer)
  pub error : u.error ≡ error_in (is_initial_in from) u.call u.answer
  pub reached : to ≡ state_after from u.answer
  pub silent : left ≡ since_after since now u.call u.answer
