-- What a server keeps beside its history, which no clause of it shows.
use Rattle.std.specs.Prelude.{◌≡◌, ℕ, ◌≤◌, List, length}
use Rattle.kube_meta.specs.declared.dynamic.DynamicObject.{DynamicObject}
use Rattle.kube_server.specs.History.{Change, State, state_of, IsHistory}
use Rattle.kube_server.specs.Servers.{meta_of}

-- its changes are a history, of which no more than all is gone, and its map holds the newest state
pub record IsServed (changes : List (Change DynamicObject)) (compacted : ℕ) (objects : State DynamicObject) : Type 0 where
  pub history : IsHistory meta_of changes
  pub within : compacted ≤ length changes
  pub newest : objects ≡ state_of meta_of changes
