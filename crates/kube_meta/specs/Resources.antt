-- Types of objects that are known only as the program runs, and objects of them.
use Rattle.std.specs.Prelude.{None}
use Rattle.std.specs.declared.alloc.Global.{Global}
use Rattle.std.specs.declared.sync.Arc.{Arc}
use Rattle.serde_json.specs.declared.value.Value.{Null}
use Rattle.kube_meta.specs.declared.metadata.ObjectMeta.{ObjectMeta}
use Rattle.kube_meta.specs.declared.dynamic.ApiResource.{ApiResource}
use Rattle.kube_meta.specs.declared.dynamic.DynamicObject.{DynamicObject}
use Rattle.kube_meta.specs.declared.object_ref.ObjectRef.{ObjectRef}
use Rattle.kube_meta.specs.Keys.{reference_of}
use Rattle.kube_meta.specs.Reference.{ObjectType, Reference}

-- the type that a resource names
abbrev pub resource_type : ApiResource → ObjectType
resource_type r = record { group = r.group; version = r.version; kind = r.kind; plural = r.plural }

-- the reference of an object of such a type
abbrev pub dynamic_reference : {K : Type 0} → ObjectRef K (Arc ApiResource Global) → Reference
dynamic_reference r = reference_of (λ t. resource_type t.value) r

-- an object of which the metadata alone is there
abbrev pub bare_object : ObjectMeta → DynamicObject
bare_object m = record { types = None; metadata = m; content = Null }

-- metadata in which everything is absent
abbrev pub no_metadata : ObjectMeta
no_metadata = record {
  name = None;
  namespace = None;
  uid = None;
  resource_version = None;
  deletion_timestamp = None;
  generation = None;
  labels = None;
  annotations = None;
  finalizers = None;
  owner_references = None;
}
