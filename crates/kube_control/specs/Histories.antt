-- Histories that turns from the beginning on have made, and what holds after each turn of one. O is the type of objects, B that of a backoff's states.
use Rattle.std.specs.Prelude.{◌≡◌, ℕ, false, List, [], take, Option}
use Rattle.kube_model.specs.World.{World}
use Rattle.kube_model.specs.History.{Turn, Step}
use Rattle.kube_model.specs.Settled.{IsSettled}
use Rattle.kube_model.specs.Takes.{running}
use Rattle.kube_model.specs.Traces.{IsTrace, Made, steps}
use Rattle.kube_history.specs.Running.{MayRun}
use Rattle.kube_history.specs.TurnEvents.{was_over}

module _ {O B : Type 0} (w : World O B) where
  -- it is the turns, with what they made, of a trace from the beginning
  pub record IsOfTrace (h : List (Step O)) : Type 0 where
    pub policies : ℕ → ℕ → O → Option ℕ
    pub turns : List Turn
    pub made : List (Made O)
    pub traced : IsTrace w policies [] turns made
    pub is_steps : h ≡ steps turns made

  -- after each turn, until shutdown was asked or given up, every stored object was last handed over as it stands, or its key has an entry
  abbrev pub EachIsSettled : List (Step O) → Type 0
  EachIsSettled h = (n : ℕ) → was_over w (take n h) ≡ false → IsSettled w (take n h)

  -- after each turn no two equal references run, and at most as many as the limit allows
  abbrev pub EachMayRun : List (Step O) → Type 0
  EachMayRun h = (n : ℕ) → MayRun w.limit (running (take n h))
