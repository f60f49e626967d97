-- What contracts see of a wait. A is the type of the API, V that of the object, C that of the condition.
use Rattle.std.specs.Prelude.{◌≡◌, ◌⊎◌, Bool, true, List, ℕ, Option}
use Rattle.kube_model.specs.History.{Dated}
use Rattle.kube_watch.specs.Objects.{Observing}
use Rattle.kube_watch.specs.Stands.{StandsFor, is_spent}

-- the watch stands for some exchanges that it made
pub record Stands {A V : Type 0} (watch : Observing A V) : Type 0 where
  pub exchanges : List (Dated V)
  pub stands : StandsFor exchanges watch.watcher

-- or it once had no memory
abbrev pub IsLive : {A V : Type 0} → Observing A V → Type 0
IsLive watch = (is_spent watch.watcher ≡ true) ⊎ Stands watch

-- the watch of the object, the condition, and whether a poll gave an answer
pub record Awaiting (A V C : Type 0) : Type 0 where
  pub watch : Observing A V
  pub condition : C
  pub is_over : Bool

-- the name of the object, the watch of it, the uid of the object that was deleted, whether a poll gave an answer, and whether one once had no memory
pub record Deleting (A V : Type 0) : Type 0 where
  pub name : List ℕ
  pub watch : Observing A V
  pub uid : Option (List ℕ)
  pub is_over : Bool
  pub is_spent : Bool
