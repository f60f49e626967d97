-- An object's members by the bytes of their names: types and metadata stand among the members of its content. (Kubernetes API concept "objects".)
use Rattle.std.specs.Prelude.{◌≡◌, ℕ, Bool, true, false, ◌||◌, ◌&&◌, List, [], ◌∷◌, ◌++◌, Option, Some, None, Result, IfOk, OnErr, option_map, codes}
use Rattle.std.specs.Str.{bytes_eq}
use Rattle.std.specs.Ordering.{nat_cmp, is_lt, is_gt}
use Rattle.std.specs.Cmp.Lexicographic.{slice_cmp}
use Rattle.json.specs.Written.{Written, WritesFront}
use Rattle.serde_json.specs.Data.{Data, number, string, Members, no_members, member}
use Rattle.serde_json.specs.Find.{of_integer}
use Rattle.kube_meta.specs.Reading.{ObjectData, unless_empty}
use Rattle.kube_meta.specs.Writing.{with_fields, texts_data, list_data, owner_data, meta_data}
use Rattle.kube_meta.specs.declared.metadata.ObjectMeta.{ObjectMeta}
use Rattle.kube_meta.specs.declared.metadata.OwnerReference.{OwnerReference}
use Rattle.kube_text.specs.Shown.{member_tokens, member_if}
use Rattle.kube_text.specs.declared.object.Next.{Next}
use Rattle.kube_text.specs.declared.object.Next.TheVariants as nexts

-- a member's name, with its value where it is there
abbrev pub Field : Type 0
Field = List ℕ × Option Data

-- fields one after the other
abbrev pub fields : List Field → Members → Members
fields [] rest = rest
fields (f ∷ fs) rest = member_if f.0 f.1 (fields fs rest)

-- ---- metadata and owners

abbrev pub owner_members : OwnerReference → Members → Members
owner_members o rest =
    member (codes "apiVersion") (string o.api_version) (member (codes "kind") (string o.kind)
    (member (codes "name") (string o.name) (member (codes "uid") (string o.uid) rest)))

-- those of metadata, by the bytes of their names
unfoldable pub sorted_fields : ObjectMeta → List Field
sorted_fields m =
    (codes "annotations", option_map texts_data (unless_empty m.annotations))
    ∷ (codes "deletionTimestamp", option_map string m.deletion_timestamp)
    ∷ (codes "finalizers", option_map (list_data string) (unless_empty m.finalizers))
    ∷ (codes "generation", option_map (λ z. number (of_integer z)) m.generation)
    ∷ (codes "labels", option_map texts_data (unless_empty m.labels))
    ∷ (codes "name", option_map string m.name)
    ∷ (codes "namespace", option_map string m.namespace)
    ∷ (codes "ownerReferences", option_map (list_data owner_data) (unless_empty m.owner_references))
    ∷ (codes "resourceVersion", option_map string m.resource_version)
    ∷ (codes "uid", option_map string m.uid)
    ∷ []

unfoldable pub meta_members : ObjectMeta → Members → Members
meta_members m rest = fields (sorted_fields m) rest

-- ---- types and metadata among the members of the content

-- a member that no content has
abbrev pub is_named : List ℕ → Bool
is_named name = bytes_eq (codes "apiVersion") name || bytes_eq (codes "kind") name || bytes_eq (codes "metadata") name

abbrev pub is_named_one : Option (List ℕ) → Bool
is_named_one None = false
is_named_one (Some name) = is_named name

-- what is left of them from one on
abbrev pub left : Next → ObjectData → List Field
left nexts.Nothing o = []
left nexts.Metadata o = (codes "metadata", Some (meta_data o.metadata)) ∷ []
left nexts.Kind o = (codes "kind", option_map (λ t. string t.kind) o.types) ∷ (codes "metadata", Some (meta_data o.metadata)) ∷ []
left nexts.ApiVersion o =
    (codes "apiVersion", option_map (λ t. string t.api_version) o.types)
    ∷ (codes "kind", option_map (λ t. string t.kind) o.types)
    ∷ (codes "metadata", Some (meta_data o.metadata))
    ∷ []

-- whether a name comes before another, or before the end
abbrev pub comes_before : List ℕ → Option (List ℕ) → Bool
comes_before field None = true
comes_before field (Some name) = is_lt (slice_cmp nat_cmp field name)

-- all of them come after a name
abbrev pub all_after : List ℕ → List Field → Bool
all_after name [] = true
all_after name (f ∷ fs) = is_gt (slice_cmp nat_cmp f.0 name) && all_after name fs

abbrev pub IsPast : Option (List ℕ) → List Field → Type 0
IsPast None fs = fs ≡ []
IsPast (Some name) fs = all_after name fs ≡ true

-- the members begin with the one of this name, or there are none
abbrev pub Begins : Option (List ℕ) → Members → Type 0
Begins None no_members = Unit {0}
Begins None (member k d ms) = ⊥
Begins (Some name) no_members = ⊥
Begins (Some name) (member k d ms) = k ≡ name

-- what is due before these members was shown
abbrev pub ShowsDue : {E : Type 0} → Result Next E → Written → Written → Option (List ℕ) → Next → ObjectData → Type 0
ShowsDue result old new name next o =
    (rest : Members) → Begins name rest
    → IfOk result (λ after. old.tokens ++ member_tokens (with_fields (left next o) rest) ≡ new.tokens ++ member_tokens (with_fields (left after o) rest))

-- a member of the content was shown, and before it what was due
abbrev pub ShowsOne : {E : Type 0} → Result Next E → Written → Written → ObjectData → Next → List ℕ → Data → Type 0
ShowsOne result old new o next name d =
    (rest : Members)
    → IfOk result (λ after. old.tokens ++ member_tokens (with_fields (left next o) (member name d rest)) ≡ new.tokens ++ member_tokens (with_fields (left after o) rest))

-- all members of the content were shown, and what was due before them
abbrev pub ShowsLeft : {E : Type 0} → Result Next E → Written → Written → ObjectData → Members → Type 0
ShowsLeft result old new o ms =
    IfOk result (λ after. old.tokens ++ member_tokens (with_fields (left nexts.ApiVersion o) ms) ≡ new.tokens ++ member_tokens (with_fields (left after o) no_members))

-- where one of these failed the first tokens of what it was to show were shown, or none
abbrev pub ShowsDueFront : {T E : Type 0} → Result T E → Written → Written → Option (List ℕ) → Next → ObjectData → Type 0
ShowsDueFront result old new name next o =
    (rest : Members) → Begins name rest → OnErr result (WritesFront old.tokens new.tokens (member_tokens (with_fields (left next o) rest)))

abbrev pub ShowsOneFront : {T E : Type 0} → Result T E → Written → Written → ObjectData → Next → List ℕ → Data → Type 0
ShowsOneFront result old new o next name d =
    (rest : Members) → OnErr result (WritesFront old.tokens new.tokens (member_tokens (with_fields (left next o) (member name d rest))))

abbrev pub ShowsLeftFront : {T E : Type 0} → Result T E → Written → Written → ObjectData → Members → Type 0
ShowsLeftFront result old new o ms = OnErr result (WritesFront old.tokens new.tokens (member_tokens (with_fields (left nexts.ApiVersion o) ms)))
