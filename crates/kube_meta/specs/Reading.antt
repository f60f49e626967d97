-- An object of the Kubernetes API as JSON, and the first fault of a value that is none (Kubernetes API concept "objects").
use Rattle.std.specs.Prelude.{ℕ, suc, ℤ, Bool, true, false, ◌||◌, List, [], ◌∷◌, Option, Some, None, Result, Ok, Err, codes, decimal, cond, unwrap_or, if◌then◌else◌}
use Rattle.std.specs.Str.{bytes_eq}
use Rattle.serde_json.specs.Data.{unsigned, negative, float, Data, null, boolean, number, string, array, object, Items, no_items, item, Members, no_members, member}
use Rattle.serde_json.specs.Find.{get, as_str, as_array, as_object, as_i64, as_u64}
use Rattle.serde_json.specs.View.{view}
use Rattle.kube_meta.specs.declared.metadata.ObjectMeta.{ObjectMeta}
use Rattle.kube_meta.specs.declared.metadata.OwnerReference.{OwnerReference}
use Rattle.kube_meta.specs.declared.metadata.TypeMeta.{TypeMeta}
use Rattle.kube_meta.specs.declared.dynamic.DynamicObject.{DynamicObject}
use Rattle.kube_meta.specs.declared.object_fault.ObjectFault.{ObjectFault}
use Rattle.kube_meta.specs.declared.object_fault.ObjectFault.TheVariants.{Fraction}
use Rattle.kube_meta.specs.Resources.{no_metadata}
use Rattle.kube_meta.specs.Places.{◌>>=◌, escaped, beneath, misshapen}

-- an object, whose content is plain data
pub record ObjectData : Type 0 where
  pub types : Option TypeMeta
  pub metadata : ObjectMeta
  pub content : Data

abbrev pub seen_object : DynamicObject → ObjectData
seen_object o = record { types = o.types; metadata = o.metadata; content = view o.content }

-- ---- forms of members

abbrev pub found : {A : Type 0} → Option A → Result A ObjectFault
found None = misshapen
found (Some x) = Ok x

abbrev pub text_at : Data → Result (List ℕ) ObjectFault
text_at d = found (as_str d)

-- a whole number of 64 bits with sign
abbrev pub whole_at : Data → Result ℤ ObjectFault
whole_at (number n) = found (as_i64 n)
whole_at null = misshapen
whole_at (boolean b) = misshapen
whole_at (string s) = misshapen
whole_at (array ds) = misshapen
whole_at (object ms) = misshapen

-- a whole number of 64 bits without sign
abbrev pub unsigned_at : Data → Result ℕ ObjectFault
unsigned_at (number n) = found (as_u64 n)
unsigned_at null = misshapen
unsigned_at (boolean b) = misshapen
unsigned_at (string s) = misshapen
unsigned_at (array ds) = misshapen
unsigned_at (object ms) = misshapen

-- texts under names
abbrev pub pairs_at : Members → Result (List (List ℕ × List ℕ)) ObjectFault
pairs_at no_members = Ok []
pairs_at (member k d ms) = beneath (escaped k) (text_at d) >>= λ text. pairs_at ms >>= λ pairs. Ok ((k, text) ∷ pairs)

unfoldable pub texts_at : Data → Result (List (List ℕ × List ℕ)) ObjectFault
texts_at d = found (as_object d) >>= pairs_at

-- the items, from an index on
abbrev pub items_at : {A : Type 0} → (Data → Result A ObjectFault) → ℕ → Items → Result (List A) ObjectFault
items_at f i no_items = Ok []
items_at f i (item d ds) = beneath (decimal i) (f d) >>= λ x. items_at f (suc i) ds >>= λ xs. Ok (x ∷ xs)

unfoldable pub list_at : {A : Type 0} → (Data → Result A ObjectFault) → Data → Result (List A) ObjectFault
list_at f d = found (as_array d) >>= items_at f 0

-- a member that must be there
abbrev pub needed : {A : Type 0} → List ℕ → (Data → Result A ObjectFault) → Option Data → Result A ObjectFault
needed k f None = beneath (escaped k) misshapen
needed k f (Some d) = beneath (escaped k) (f d)

unfoldable pub field : {A : Type 0} → List ℕ → (Data → Result A ObjectFault) → Data → Result A ObjectFault
field k f d = needed k f (get k d)

-- a value that is null counts as absent
abbrev pub optional : {A : Type 0} → (Data → Result A ObjectFault) → Data → Result (Option A) ObjectFault
optional f null = Ok None
optional f (boolean b) = f (boolean b) >>= λ x. Ok (Some x)
optional f (number n) = f (number n) >>= λ x. Ok (Some x)
optional f (string s) = f (string s) >>= λ x. Ok (Some x)
optional f (array ds) = f (array ds) >>= λ x. Ok (Some x)
optional f (object ms) = f (object ms) >>= λ x. Ok (Some x)

-- a member that may be absent or null
abbrev pub maybe : {A : Type 0} → List ℕ → (Data → Result A ObjectFault) → Option Data → Result (Option A) ObjectFault
maybe k f None = Ok None
maybe k f (Some d) = beneath (escaped k) (optional f d)

unfoldable pub maybe_field : {A : Type 0} → List ℕ → (Data → Result A ObjectFault) → Data → Result (Option A) ObjectFault
maybe_field k f d = maybe k f (get k d)

-- an empty list or map counts as absent
abbrev pub unless_empty : {A : Type 0} → Option (List A) → Option (List A)
unless_empty None = None
unless_empty (Some []) = None
unless_empty (Some (x ∷ xs)) = Some (x ∷ xs)

unfoldable pub full_field : {A : Type 0} → List ℕ → (Data → Result (List A) ObjectFault) → Data → Result (Option (List A)) ObjectFault
full_field k f d = maybe_field k f d >>= λ o. Ok (unless_empty o)

-- an object, whatever its members
unfoldable pub object_at : Data → Result (Unit {0}) ObjectFault
object_at d = found (as_object d) >>= λ ms. Ok tt

-- ---- metadata

unfoldable pub owner_at : Data → Result OwnerReference ObjectFault
owner_at d = do
  _ ← object_at d
  api_version ← field (codes "apiVersion") text_at d
  kind ← field (codes "kind") text_at d
  name ← field (codes "name") text_at d
  uid ← field (codes "uid") text_at d
  Ok (record { api_version = api_version; kind = kind; name = name; uid = uid })

-- an object's metadata; members of other names are not read
unfoldable pub meta_at : Data → Result ObjectMeta ObjectFault
meta_at d = do
  _ ← object_at d
  name ← maybe_field (codes "name") text_at d
  namespace ← maybe_field (codes "namespace") text_at d
  uid ← maybe_field (codes "uid") text_at d
  version ← maybe_field (codes "resourceVersion") text_at d
  deleted ← maybe_field (codes "deletionTimestamp") text_at d
  generation ← maybe_field (codes "generation") whole_at d
  labels ← full_field (codes "labels") texts_at d
  annotations ← full_field (codes "annotations") texts_at d
  finalizers ← full_field (codes "finalizers") (list_at text_at) d
  owners ← full_field (codes "ownerReferences") (list_at owner_at) d
  Ok (record {
    name = name;
    namespace = namespace;
    uid = uid;
    resource_version = version;
    deletion_timestamp = deleted;
    generation = generation;
    labels = labels;
    annotations = annotations;
    finalizers = finalizers;
    owner_references = owners;
  })

-- ---- types: both members are there, or none is

abbrev pub is_value : Option Data → Bool
is_value None = false
is_value (Some null) = false
is_value (Some (boolean b)) = true
is_value (Some (number n)) = true
is_value (Some (string s)) = true
is_value (Some (array ds)) = true
is_value (Some (object ms)) = true

unfoldable pub has_types : Data → Bool
has_types d = is_value (get (codes "apiVersion") d) || is_value (get (codes "kind") d)

unfoldable pub types_at : Data → Result (Option TypeMeta) ObjectFault
types_at d = cond (has_types d) (do
  api_version ← field (codes "apiVersion") text_at d
  kind ← field (codes "kind") text_at d
  Ok (Some (record { api_version = api_version; kind = kind }))) (Ok None)

-- ---- the other members

-- without the member of this name
abbrev pub without : List ℕ → Members → Members
without k no_members = no_members
without k (member l d ms) = if bytes_eq k l then ms else member l d (without k ms)

unfoldable pub others : Members → Members
others ms = without (codes "apiVersion") (without (codes "kind") (without (codes "metadata") ms))

-- the first number, depth first, that is neither a `u64` nor an `i64`
abbrev mutual
  pub whole_numbers : Data → Result (Unit {0}) ObjectFault
  whole_numbers null = Ok tt
  whole_numbers (boolean b) = Ok tt
  whole_numbers (number (unsigned n)) = Ok tt
  whole_numbers (number (negative z)) = Ok tt
  whole_numbers (number (float x)) = Err (Fraction [])
  whole_numbers (string s) = Ok tt
  whole_numbers (array ds) = whole_items 0 ds
  whole_numbers (object ms) = whole_members ms

  pub whole_items : ℕ → Items → Result (Unit {0}) ObjectFault
  whole_items i no_items = Ok tt
  whole_items i (item d ds) = beneath (decimal i) (whole_numbers d) >>= λ _. whole_items (suc i) ds

  pub whole_members : Members → Result (Unit {0}) ObjectFault
  whole_members no_members = Ok tt
  whole_members (member k d ms) = beneath (escaped k) (whole_numbers d) >>= λ _. whole_members ms

-- ---- the whole

-- the members that are no types and no metadata
unfoldable pub content_at : Data → Result Data ObjectFault
content_at d = found (as_object d) >>= λ ms. whole_members (others ms) >>= λ _. Ok (object (others ms))

unfoldable pub object_data_at : Data → Result ObjectData ObjectFault
object_data_at d = do
  _ ← object_at d
  types ← types_at d
  meta ← maybe_field (codes "metadata") meta_at d
  content ← content_at d
  Ok (record { types = types; metadata = unwrap_or meta no_metadata; content = content })
