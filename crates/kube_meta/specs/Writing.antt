-- An object as JSON, and what is read of it (Kubernetes API concept "objects").
use Rattle.std.specs.Prelude.{◌≡◌, ℕ, ℤ, pos, negsuc, ◌<◌, ◌^◌, false, List, [], ◌∷◌, Option, Some, None, option_map, map, codes}
use Rattle.serde_json.specs.Data.{Data, null, boolean, number, string, array, object, Members, no_members, member, put}
use Rattle.serde_json.specs.View.{items_of}
use Rattle.serde_json.specs.Find.{get_member, of_integer}
use Rattle.serde_json.specs.Written.{has_float}
use Rattle.kube_meta.specs.declared.metadata.ObjectMeta.{ObjectMeta}
use Rattle.kube_meta.specs.declared.metadata.OwnerReference.{OwnerReference}
use Rattle.kube_meta.specs.declared.metadata.TypeMeta.{TypeMeta}
use Rattle.kube_meta.specs.Reading.{ObjectData, unless_empty, others}

-- the members with these, of which those that are there are put where their names belong
abbrev pub put_if : List ℕ → Option Data → Members → Members
put_if k None ms = ms
put_if k (Some d) ms = put k d ms

abbrev pub with_fields : List (List ℕ × Option Data) → Members → Members
with_fields [] ms = ms
with_fields (f ∷ fs) ms = with_fields fs (put_if f.0 f.1 ms)

-- ---- forms of members

abbrev pub text_members : List (List ℕ × List ℕ) → Members
text_members [] = no_members
text_members (p ∷ ps) = member p.0 (string p.1) (text_members ps)

abbrev pub texts_data : List (List ℕ × List ℕ) → Data
texts_data ps = object (text_members ps)

abbrev pub list_data : {A : Type 0} → (A → Data) → List A → Data
list_data data_of xs = array (items_of (map data_of xs))

abbrev pub owner_data : OwnerReference → Data
owner_data o = object (member (codes "apiVersion") (string o.api_version) (member (codes "kind") (string o.kind)
    (member (codes "name") (string o.name) (member (codes "uid") (string o.uid) no_members))))

-- ---- metadata: what is absent, and an empty list or map, is left out

unfoldable pub meta_fields : ObjectMeta → List (List ℕ × Option Data)
meta_fields m =
    (codes "name", option_map string m.name)
    ∷ (codes "namespace", option_map string m.namespace)
    ∷ (codes "uid", option_map string m.uid)
    ∷ (codes "resourceVersion", option_map string m.resource_version)
    ∷ (codes "deletionTimestamp", option_map string m.deletion_timestamp)
    ∷ (codes "generation", option_map (λ z. number (of_integer z)) m.generation)
    ∷ (codes "labels", option_map texts_data (unless_empty m.labels))
    ∷ (codes "annotations", option_map texts_data (unless_empty m.annotations))
    ∷ (codes "finalizers", option_map (list_data string) (unless_empty m.finalizers))
    ∷ (codes "ownerReferences", option_map (list_data owner_data) (unless_empty m.owner_references))
    ∷ []

unfoldable pub meta_data : ObjectMeta → Data
meta_data m = object (with_fields (meta_fields m) no_members)

-- ---- the whole

-- content that is no object counts as empty
abbrev pub content_members : Data → Members
content_members null = no_members
content_members (boolean b) = no_members
content_members (number n) = no_members
content_members (string s) = no_members
content_members (array ds) = no_members
content_members (object ms) = ms

abbrev pub type_fields : Option TypeMeta → List (List ℕ × Option Data)
type_fields None = []
type_fields (Some t) = (codes "apiVersion", Some (string t.api_version)) ∷ (codes "kind", Some (string t.kind)) ∷ []

-- members of the content that are named as types or metadata are left out
unfoldable pub object_data : ObjectData → Data
object_data o = object (put (codes "metadata") (meta_data o.metadata) (with_fields (type_fields o.types) (others (content_members o.content))))

-- ---- what is read of what was written

-- an object's content, which has no members named as types or metadata, and numbers of 64 bits alone
pub record IsContent (d : Data) : Type 0 where
  pub members : Members
  pub is_object : d ≡ object members
  pub no_version : get_member (codes "apiVersion") members ≡ None
  pub no_kind : get_member (codes "kind") members ≡ None
  pub no_metadata : get_member (codes "metadata") members ≡ None
  pub whole : has_float d ≡ false

-- a whole number that an `i64` holds
abbrev pub IsSmall : ℤ → Type 0
IsSmall (pos n) = n < 2 ^ 63
IsSmall (negsuc n) = Unit {0}

-- empty lists and maps of the metadata are absent
abbrev pub without_empties : ObjectMeta → ObjectMeta
without_empties m = record m {
  labels = unless_empty m.labels;
  annotations = unless_empty m.annotations;
  finalizers = unless_empty m.finalizers;
  owner_references = unless_empty m.owner_references;
}

abbrev pub as_read : ObjectData → ObjectData
as_read o = record o { metadata = without_empties o.metadata }
