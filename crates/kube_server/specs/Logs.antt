-- What the copy of a log holds: the changes, and the revision whose objects lie ready.
use Rattle.std.specs.Prelude.{ℕ, List}
use Rattle.kube_meta.specs.declared.dynamic.DynamicObject.{DynamicObject}
use Rattle.kube_server.specs.History.{Change}

pub record LogState : Type 0 where
  pub changes : List (Change DynamicObject)
  pub shown : ℕ
