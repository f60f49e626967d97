-- A reflector as plain data, and what it is after its writer was lent. K is the type of objects, D that of their dynamic types.
use Rattle.std.specs.Option.{option_map}
use Rattle.std.specs.declared.sync.Arc.{Arc}
use Rattle.std.specs.declared.alloc.Global.{Global}
use Rattle.kube_meta.specs.Reference.{ObjectType}
use Rattle.kube_reflect.specs.declared.reflecting.Reflector.{Reflector}
use Rattle.kube_reflect.specs.Reflects.{Reflecting}
use Rattle.kube_reflect.specs.HeldEvents.{held_of}

module _ {K D S : Type 0} where
  abbrev pub reflecting : (D → ObjectType) → Reflector K S D → Reflecting K (Arc K Global) S
  reflecting type_of r = record { writer = r.writer; stream = r.stream; held = option_map (held_of type_of) r.held; fault = r.fault }
