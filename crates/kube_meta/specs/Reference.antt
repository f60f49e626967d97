-- References to objects, as plain data (Kubernetes API concepts "resource kinds" and "object names"; crate: `ObjectRef`).
use Rattle.std.specs.Prelude.{ℕ, Bool, true, false, ◌&&◌, ◌||◌, ◌==◌, ◌++◌, nat_lt, List, [], ◌∷◌, Option, Some, None}
use Rattle.std.specs.Str.{bytes_eq}
use Rattle.std.specs.Option.{option_eq}

-- a type of objects: texts are lists of bytes
pub record ObjectType : Type 0 where
  pub group : List ℕ
  pub version : List ℕ
  pub kind : List ℕ
  pub plural : List ℕ

-- a reference: a type, a name, and a namespace or none
pub record Reference : Type 0 where
  pub kind : ObjectType
  pub name : List ℕ
  pub namespace : Option (List ℕ)

-- a group and a version as an object's apiVersion has them
abbrev pub api_version : List ℕ → List ℕ → List ℕ
api_version [] version = version
api_version (c ∷ cs) version = c ∷ cs ++ 47 ∷ version

abbrev pub same_type : ObjectType → ObjectType → Bool
same_type a b = bytes_eq a.group b.group && bytes_eq a.version b.version && bytes_eq a.kind b.kind && bytes_eq a.plural b.plural

-- two references are equal where type, name and namespace are
abbrev pub same_reference : Reference → Reference → Bool
same_reference a b = bytes_eq a.name b.name && option_eq bytes_eq a.namespace b.namespace && same_type a.kind b.kind

-- a reference without its namespace, as cluster-scoped objects have it
abbrev pub without_namespace : Reference → Reference
without_namespace r = record { kind = r.kind; name = r.name; namespace = None }

-- the order of bytes
abbrev pub text_before : List ℕ → List ℕ → Bool
text_before cs [] = false
text_before [] (d ∷ ds) = true
text_before (c ∷ cs) (d ∷ ds) = nat_lt c d || (c == d) && text_before cs ds

-- none comes before any
abbrev pub namespace_before : Option (List ℕ) → Option (List ℕ) → Bool
namespace_before n None = false
namespace_before None (Some m) = true
namespace_before (Some n) (Some m) = text_before n m

-- by namespace, and then by name
abbrev pub reference_before : Reference → Reference → Bool
reference_before a b =
    namespace_before a.namespace b.namespace
    || option_eq bytes_eq a.namespace b.namespace && text_before a.name b.name

abbrev pub dotted : Option (List ℕ) → List ℕ
dotted None = []
dotted (Some namespace) = 46 ∷ namespace

-- how a reference is shown: Kind.version.group/name, and then .namespace where there is one
abbrev pub shown : Reference → List ℕ
shown r = r.kind.kind ++ 46 ∷ (r.kind.version ++ 46 ∷ (r.kind.group ++ 47 ∷ (r.name ++ dotted r.namespace)))
