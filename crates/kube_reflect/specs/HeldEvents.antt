-- An event that waits in a reflector, as plain data. K is the type of objects, D that of their dynamic types.
use Rattle.std.specs.Prelude.{map}
use Rattle.std.specs.declared.sync.Arc.{Arc}
use Rattle.std.specs.declared.alloc.Global.{Global}
use Rattle.kube_meta.specs.Reference.{ObjectType}
use Rattle.kube_meta.specs.Keys.{reference_of}
use Rattle.kube_reflect.specs.declared.held.Held.{Held as HeldEvent}
use Rattle.kube_reflect.specs.Reflects.{Held}

abbrev pub held_of : {K D : Type 0} → (D → ObjectType) → HeldEvent K D → Held (Arc K Global)
held_of type_of h = record { event = h.event; references = map (reference_of type_of) h.references.items }
