-- What a log keeps beside its changes, which no clause of it shows.
use Rattle.std.specs.Prelude.{◌≡◌, ℕ, ◌≤◌, List, map, length}
use Rattle.std.specs.Arc.{arc_value}
use Rattle.std.specs.declared.alloc.Global.{Global}
use Rattle.std.specs.declared.sync.Arc.{Arc}
use Rattle.kube_meta.specs.declared.dynamic.DynamicObject.{DynamicObject}
use Rattle.kube_server.specs.History.{Change, State, state_at, objects_of}
use Rattle.kube_server.specs.Servers.{meta_of}

-- the map is what the first changes made, and the objects that lie ready are those of a revision
pub record IsKept (changes : List (Change DynamicObject)) (newest : State DynamicObject) (applied : ℕ) (shown : List (Arc DynamicObject Global)) (revision : ℕ) : Type 0 where
  pub counted : applied ≤ length changes
  pub made : newest ≡ state_at meta_of changes applied
  pub known : revision ≤ length changes
  pub ready : map arc_value shown ≡ objects_of (state_at meta_of changes revision)
