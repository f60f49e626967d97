-- How the objects of a script name their type.
use Rattle.std.specs.Arc.{arc_value}
use Rattle.std.specs.declared.sync.Arc.{Arc}
use Rattle.std.specs.declared.alloc.Global.{Global}
use Rattle.kube_meta.specs.Reference.{ObjectType}
use Rattle.kube_meta.specs.Resources.{resource_type}
use Rattle.kube_meta.specs.declared.dynamic.ApiResource.{ApiResource}

abbrev pub Named : Type 0
Named = Arc ApiResource Global

abbrev pub named_type : Named → ObjectType
named_type t = resource_type (arc_value t)
