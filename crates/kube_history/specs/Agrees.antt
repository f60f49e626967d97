-- That events of a core are legal, and say of a history what its own definitions say. O is the type of objects.
use Rattle.std.specs.Prelude.{◌≡◌, ◌≤◌, false, List, [], ◌∷◌, ◌++◌, map}
use Rattle.kube_model.specs.World.{World}
use Rattle.kube_model.specs.History.{Exchange, Dated, Turn, Finished, Step, exchanges, exchanges_with}
use Rattle.kube_model.specs.Fits.{IsFitting}
use Rattle.kube_model.specs.Requests.{events_of, asked_at, requests_of_turn}
use Rattle.kube_model.specs.Stored.{store_after}
use Rattle.kube_model.specs.Takes.{running}
use Rattle.kube_model.specs.Turns.{running_in}
use Rattle.kube_model.specs.Traces.{last_moment}
use Rattle.kube_history.specs.CoreWorld.{core_world}
use Rattle.kube_history.specs.CoreEvents.{CoreEvent, answers_in, was_shut, clock_of, running_of, queue_of, cache_of}
use Rattle.kube_history.specs.Legal.{AreLegal}
use Rattle.kube_history.specs.TurnEvents.{was_over}

module _ {O B : Type 0} (w : World O B) where
  -- each of these exchanges fits after those before it
  abbrev pub EachFits : List (Dated O) → List (Dated O) → Type 0
  EachFits before [] = Unit {0}
  EachFits before (d ∷ ds) = IsFitting w before d.at d.exchange × EachFits (before ++ d ∷ []) ds

  -- what these events say of the queue, of what runs, of the shutdown and of the store is what the history says; so is the clock, until a shutdown
  pub record Agrees (h : List (Step O)) (es : List (CoreEvent O)) : Type 0 where
    pub queue : queue_of (core_world w) es ≡ events_of w h
    pub running : running_of es ≡ running h
    pub shut : was_shut es ≡ was_over w h
    pub answers : answers_in es ≡ exchanges h
    pub store : cache_of (core_world w) es ≡ store_after w h
    pub fits : EachFits [] (exchanges h)
    pub legal : AreLegal (core_world w) [] es
    pub behind : clock_of es ≤ last_moment h
    pub clock : was_shut es ≡ false → clock_of es ≡ last_moment h

  -- these events are legal, and what they say is what an open turn after a history has done by its first exchanges
  pub record AgreesSoFar (h : List (Step O)) (t : Turn) (finished : List Finished) (xs : List (Exchange O)) (es : List (CoreEvent O)) : Type 0 where
    pub queue : queue_of (core_world w) es ≡ events_of w h ++ map (asked_at t.at) (requests_of_turn w (store_after w h) t finished xs)
    pub running : running_of es ≡ running_in w h t
    pub shut : was_shut es ≡ false
    pub answers : answers_in es ≡ exchanges_with h t xs
    pub fits : EachFits [] (exchanges_with h t xs)
    pub legal : AreLegal (core_world w) [] es
    pub behind : clock_of es ≤ t.at
