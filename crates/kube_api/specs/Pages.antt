-- A page as plain data. V is the type of objects. (`kube::core::ObjectList`.)
use Rattle.std.specs.Prelude.{ℕ, List, map, Option}
use Rattle.std.specs.Arc.{arc_value}
use Rattle.kube_api.specs.declared.event.Page.{Page}

pub record Parts (V : Type 0) : Type 0 where
  pub items : List V
  pub token : Option (List ℕ)
  pub version : Option (List ℕ)

abbrev pub parts_of : {V : Type 0} → Page V → Parts V
parts_of p = record { items = map arc_value p.items; token = p.token; version = p.version }
