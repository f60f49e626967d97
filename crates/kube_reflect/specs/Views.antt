-- What a cache stores, as plain data. K is the type of objects, D that of their dynamic types.
use Rattle.std.specs.Prelude.{List, map}
use Rattle.std.specs.Arc.{arc_value}
use Rattle.kube_meta.specs.Reference.{ObjectType, Reference}
use Rattle.kube_meta.specs.Keys.{reference_of}
use Rattle.kube_reflect.specs.declared.stored.Stored.{Stored}

module _ {K D : Type 0} where
  -- the reference and the object
  abbrev pub stored_of : (D → ObjectType) → Stored K D → Reference × K
  stored_of type_of s = (reference_of type_of (arc_value s.reference), arc_value s.object)

  abbrev pub all_stored : (D → ObjectType) → List (Stored K D) → List (Reference × K)
  all_stored type_of ss = map (stored_of type_of) ss
