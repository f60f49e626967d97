-- A turn with its record, as events of a core. O is the type of objects.
use Rattle.std.specs.Prelude.{ℕ, Bool, true, false, not, ◌||◌, List, [], ◌∷◌, ◌++◌, map, Some, None, if◌then◌else◌}
use Rattle.kube_model.specs.World.{World}
use Rattle.kube_model.specs.History.{Exchange, Outcome, Succeeded, Failed, Turn, Finished, Taken, Step, exchanges, exchanges_with}
use Rattle.kube_model.specs.Pause.{gave_up}
use Rattle.kube_model.specs.Shutdowns.{is_shut, is_closed}
use Rattle.kube_model.specs.Traces.{last_moment}
use Rattle.kube_history.specs.CoreEvents.{CoreEvent, Answered, Requested, Reloaded, Finished as Ended, Settled, Took, Shut}

-- whether a reconcile ended with its own action
abbrev pub is_success : Outcome → Bool
is_success (Succeeded action) = true
is_success Failed = false

module _ {O : Type 0} where
  abbrev pub finish_event : ℕ → Finished → CoreEvent O
  finish_event at f = Ended at f.finish.reference (is_success f.finish.outcome) f.action true

  abbrev pub reload_events : ℕ → Bool → List (CoreEvent O)
  reload_events at reload = if reload then Reloaded at ∷ [] else []

  -- the events of a turn that request, in order: finishes, the reload, the named requests, the answers so far
  abbrev pub asks : Turn → List Finished → List (Exchange O) → List (CoreEvent O)
  asks t finished xs =
      map (finish_event t.at) finished ++ reload_events t.at t.reload ++ map (Requested t.at) t.on ++ map (Answered t.at) xs

  abbrev pub shut_if : Bool → ℕ → List (CoreEvent O)
  shut_if shuts at = if shuts then Shut at ∷ [] else []

  -- takes, up to the one that finds nothing
  abbrev pub takes : ℕ → List (Taken O) → List (CoreEvent O)
  takes at taken = map (λ t. Took at (Some t)) taken ++ Took at None ∷ []

module _ {O B : Type 0} (w : World O B) where
  -- whether shutdown was asked or given up in these turns
  abbrev pub was_over : List (Step O) → Bool
  was_over h = is_shut h || gave_up w (exchanges h)

  -- the events of an open turn up to its takes: what requests, the settle, and the shutdown where the backoff gave up
  abbrev pub before_takes : List (Step O) → Turn → List Finished → List (Exchange O) → List (CoreEvent O)
  before_takes h t finished xs = asks t finished xs ++ Settled t.at ∷ [] ++ shut_if (gave_up w (exchanges_with h t xs)) t.at

  -- those of a closed turn: the shutdown, where it is the first, at the core's clock; and the finishes
  abbrev pub closing : List (Step O) → Turn → List Finished → List (CoreEvent O)
  closing h t finished = shut_if (not (was_over h)) (last_moment h) ++ map (finish_event t.at) finished

  -- what happens to a core in a turn after a history
  abbrev pub core_events : List (Step O) → Step O → List (CoreEvent O)
  core_events h s =
      if is_closed w h s.turn then closing h s.turn s.made.finished
      else before_takes h s.turn s.made.finished s.made.exchanges ++ takes s.turn.at s.made.taken

  abbrev pub core_after : List (Step O) → List (Step O) → List (CoreEvent O)
  core_after before [] = []
  core_after before (s ∷ h) = core_events before s ++ core_after (before ++ s ∷ []) h

  -- what happens to a core in a history
  abbrev pub core_of : List (Step O) → List (CoreEvent O)
  core_of h = core_after [] h
