-- References as the program holds them, seen as plain data; and the reference of an object.
use Rattle.std.specs.Prelude.{ℕ, Bool, ◌&&◌, ◌++◌, List, [], Option, Some, None, is_some, unwrap_or}
use Rattle.std.specs.Str.{bytes_eq}
use Rattle.std.specs.Hash as fed
use Rattle.kube_meta.specs.declared.metadata.ObjectMeta.{ObjectMeta}
use Rattle.kube_meta.specs.declared.metadata.OwnerReference.{OwnerReference}
use Rattle.kube_meta.specs.declared.object_ref.ObjectRef.{ObjectRef}
use Rattle.kube_meta.specs.declared.object_ref.ObjectReference.{ObjectReference}
use Rattle.kube_meta.specs.declared.object_ref.Extra.{Extra}
use Rattle.kube_meta.specs.Reference.{ObjectType, Reference, api_version}

-- a reference without what is not compared
abbrev pub reference_of : {K D : Type 0} → (D → ObjectType) → ObjectRef K D → Reference
reference_of type_of r = record { kind = type_of r.dyntype; name = r.name; namespace = r.namespace }

-- whether an object with this metadata has a name; the empty text is a name
abbrev pub is_named : ObjectMeta → Bool
is_named m = is_some m.name

-- the reference of an object of this type that has a name
abbrev pub key_of : ObjectType → ObjectMeta → Reference
key_of t m = record { kind = t; name = unwrap_or m.name []; namespace = m.namespace }

-- what a reference keeps of its object besides
abbrev pub extra_of : ObjectMeta → Extra
extra_of m = record { resource_version = m.resource_version; uid = m.uid }

abbrev pub no_extra : Extra
no_extra = record { resource_version = None; uid = None }

-- whether an owner is of this type
abbrev pub is_of_type : ObjectType → OwnerReference → Bool
is_of_type t o = bytes_eq o.api_version (api_version t.group t.version) && bytes_eq o.kind t.kind

-- the reference to an owner in this namespace
abbrev pub owner_ref : {K D : Type 0} → D → Option (List ℕ) → OwnerReference → ObjectRef K D
owner_ref t namespace o = record { dyntype = t; name = o.name; namespace = namespace; extra = record { resource_version = None; uid = Some o.uid } }

-- a reference as the Kubernetes API has it
abbrev pub object_reference : Reference → Extra → ObjectReference
object_reference r extra = record {
  api_version = Some (api_version r.kind.group r.kind.version);
  kind = Some r.kind.kind;
  name = Some r.name;
  namespace = r.namespace;
  resource_version = extra.resource_version;
  uid = extra.uid;
  field_path = None;
}

-- what is hashed of a reference: all that is compared
abbrev pub hashed : Reference → List (List ℕ)
hashed r =
    fed.str r.name ++ fed.option fed.str r.namespace ++ fed.str r.kind.group ++ fed.str r.kind.version ++ fed.str r.kind.kind
    ++ fed.str r.kind.plural
