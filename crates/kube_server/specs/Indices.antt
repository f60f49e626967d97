-- Where a watch stands in a log, which no public clause shows.
use Rattle.std.specs.Prelude.{◌≡◌, ℕ, true, List, [], ◌∷◌, drop, Option, Some, None}
use Rattle.kube_meta.specs.declared.dynamic.DynamicObject.{DynamicObject}
use Rattle.kube_model.specs.Raw.{RawAnswer}
use Rattle.kube_server.specs.History.{Change, object_of}
use Rattle.kube_server.specs.Numbers.{NameSought, has_name}
use Rattle.kube_server.specs.Servers.{meta_of}
use Rattle.kube_server.specs.Connections.{OpenWatch, first_named}

-- the change at the head has the name
abbrev pub HeadIsNamed : NameSought → List (Change DynamicObject) → Type 0
HeadIsNamed name [] = Unit {0}
HeadIsNamed name (change ∷ changes) = has_name name (meta_of (object_of change)) ≡ true

-- from here on the same is found first as from there, and the change here is it, if there is one
pub record IsFirstNamed (name : NameSought) (changes : List (Change DynamicObject)) (from index : ℕ) : Type 0 where
  pub same : first_named meta_of name index (drop index changes) ≡ first_named meta_of name from (drop from changes)
  pub named : HeadIsNamed name (drop index changes)

abbrev pub IsIndexAfter : NameSought → List (Change DynamicObject) → List (RawAnswer DynamicObject) → Option ℕ → ℕ → Type 0
IsIndexAfter name changes [] (Some from) index = IsFirstNamed name changes from index
IsIndexAfter name changes [] None index = Unit {0}
IsIndexAfter name changes (answer ∷ rest) follows index = Unit {0}

-- where a watch goes on, once nothing is pending
abbrev pub IsNextIndex : OpenWatch DynamicObject → List (Change DynamicObject) → ℕ → Type 0
IsNextIndex w changes index = IsIndexAfter w.name changes w.pending w.follows index
