-- What a patch makes of a JSON document: operations at JSON Pointers, all or none (RFC 6902 with its own test for null, RFC 6901).
use Rattle.std.specs.Prelude.{◌≡◌, ℕ, suc, zero, ◌==◌, ◌&&◌, List, [], ◌∷◌, map, Bool, true, false, not, Option, Some, None, Result, Ok, Err, option_map, option_and_then, ok_or, codes, if◌then◌else◌}
use Rattle.std.specs.Option.{option_eq}
use Rattle.std.specs.Str.{bytes_eq}
use Rattle.serde_json.specs.Data.{Data, null, boolean, number, string, array, object, Items, no_items, item, Members, no_members, member, put}
use Rattle.serde_json.specs.Events.{items_len}
use Rattle.serde_json.specs.Find.{get, get_member, get_item, index_of, unescape, as_str}
use Rattle.serde_json.specs.View.{view}
use Rattle.serde_json.specs.Written.{has_float, compact_text}
use Rattle.kube_meta.specs.Reading.{ObjectData, object_data_at}
use Rattle.kube_meta.specs.declared.object_fault.ObjectFault.{ObjectFault}
use Rattle.kube_api.specs.declared.patch.Patch.{Patch}
use Rattle.kube_api.specs.declared.patch.Patch.TheVariants.{Test, Add, Remove}
use Rattle.kube_api.specs.declared.patch.PatchRefusal.{PatchRefusal}
use Rattle.kube_api.specs.declared.patch.PatchRefusal.TheVariants.{NoMemory, NotFound, TestFailed, PathMissing, NotAnObject}

-- ---- pointers

-- a character before the first part
abbrev pub onto_first : ℕ → List (List ℕ) → List (List ℕ)
onto_first c [] = (c ∷ []) ∷ []
onto_first c (part ∷ parts) = (c ∷ part) ∷ parts

-- a text, cut at each `/`
abbrev pub cut : List ℕ → List (List ℕ)
cut [] = [] ∷ []
cut (c ∷ cs) = if c == 47 then [] ∷ cut cs else onto_first c (cut cs)

-- the names that a pointer goes through; none where it doesn't begin with `/`. `~1` stands for `/`, and `~0` for `~`
abbrev pub parts_of : List ℕ → Option (List (List ℕ))
parts_of [] = Some []
parts_of (c ∷ cs) = if c == 47 then Some (map unescape (cut cs)) else None

-- ---- what stands at a pointer

-- a member of an object, or an item of an array, whose index is decimal without a leading zero
abbrev pub part_of : List ℕ → Data → Option Data
part_of name (object ms) = get_member name ms
part_of name (array ds) = option_and_then (λ i. get_item i ds) (index_of name)
part_of name null = None
part_of name (boolean b) = None
part_of name (number n) = None
part_of name (string s) = None

abbrev pub found_by : List (List ℕ) → Data → Option Data
found_by [] d = Some d
found_by (name ∷ names) d = option_and_then (found_by names) (part_of name d)

abbrev pub found_at : List ℕ → Data → Option Data
found_at path d = option_and_then (λ names. found_by names d) (parts_of path)

-- ---- a change of one part; none where that part is missing

abbrev pub changed_member : (Data → Option Data) → List ℕ → Members → Option Members
changed_member f name no_members = None
changed_member f name (member l d ms) = if bytes_eq name l then option_map (λ e. member l e ms) (f d) else option_map (member l d) (changed_member f name ms)

abbrev pub changed_item : (Data → Option Data) → ℕ → Items → Option Items
changed_item f i no_items = None
changed_item f zero (item d ds) = option_map (λ e. item e ds) (f d)
changed_item f (suc i) (item d ds) = option_map (item d) (changed_item f i ds)

abbrev pub changed_part : (Data → Option Data) → List ℕ → Data → Option Data
changed_part f name (object ms) = option_map object (changed_member f name ms)
changed_part f name (array ds) = option_map array (option_and_then (λ i. changed_item f i ds) (index_of name))
changed_part f name null = None
changed_part f name (boolean b) = None
changed_part f name (number n) = None
changed_part f name (string s) = None

-- ---- adding: a member of an object, or an item before the one at an index; `-` is the index past the last

abbrev pub inserted_item : ℕ → Data → Items → Option Items
inserted_item zero v ds = Some (item v ds)
inserted_item (suc i) v no_items = None
inserted_item (suc i) v (item d ds) = option_map (item d) (inserted_item i v ds)

abbrev pub new_index : List ℕ → Items → Option ℕ
new_index name ds = if bytes_eq name (codes "-") then Some (items_len ds) else index_of name

abbrev pub added : Data → List ℕ → Data → Option Data
added v name (object ms) = Some (object (put name v ms))
added v name (array ds) = option_map array (option_and_then (λ i. inserted_item i v ds) (new_index name ds))
added v name null = None
added v name (boolean b) = None
added v name (number n) = None
added v name (string s) = None

-- ---- removing what is there

abbrev pub removed_member : List ℕ → Members → Option Members
removed_member name no_members = None
removed_member name (member l d ms) = if bytes_eq name l then Some ms else option_map (member l d) (removed_member name ms)

abbrev pub removed_item : ℕ → Items → Option Items
removed_item i no_items = None
removed_item zero (item d ds) = Some ds
removed_item (suc i) (item d ds) = option_map (item d) (removed_item i ds)

abbrev pub removed : List ℕ → Data → Option Data
removed name (object ms) = option_map object (removed_member name ms)
removed name (array ds) = option_map array (option_and_then (λ i. removed_item i ds) (index_of name))
removed name null = None
removed name (boolean b) = None
removed name (number n) = None
removed name (string s) = None

-- ---- a change at a pointer

pub data Change : Type 0 where
  Puts : (value : Data) → Change
  Takes : Change

-- the whole document is replaced, or nothing of it is left
abbrev pub whole_after : Change → Data
whole_after (Puts v) = v
whole_after Takes = null

abbrev pub part_after : Change → List ℕ → Data → Option Data
part_after (Puts v) = added v
part_after Takes = removed

abbrev pub changed_by : Change → List (List ℕ) → Data → Option Data
changed_by change [] d = Some (whole_after change)
changed_by change (name ∷ []) d = part_after change name d
changed_by change (name ∷ next ∷ names) d = changed_part (changed_by change (next ∷ names)) name d

abbrev pub changed_at : Change → List ℕ → Data → Option Data
changed_at change path d = option_and_then (λ names. changed_by change names d) (parts_of path)

-- ---- tests

-- equal values: neither holds a number that is neither a `u64` nor an `i64`, and their texts without spaces are equal
abbrev pub is_equal : Data → Data → Bool
is_equal d e = not (has_float d) && not (has_float e) && bytes_eq (compact_text d) (compact_text e)

abbrev pub is_null : Data → Bool
is_null null = true
is_null (boolean b) = false
is_null (number n) = false
is_null (string s) = false
is_null (array ds) = false
is_null (object ms) = false

-- where nothing is, a test for null passes, and no other
abbrev pub passes : Data → Option Data → Bool
passes v None = is_null v
passes v (Some d) = is_equal d v

-- ---- operations, all or none

pub data Operation : Type 0 where
  Tests : (path : List ℕ) → (value : Data) → Operation
  Changes : (path : List ℕ) → (change : Change) → Operation

abbrev pub operation_of : Patch → Operation
operation_of (Test path value) = Tests path (view value)
operation_of (Add path value) = Changes path (Puts (view value))
operation_of (Remove path) = Changes path Takes

abbrev pub performed : ℕ → Operation → Data → Result Data PatchRefusal
performed i (Tests path v) d = if passes v (found_at path d) then Ok d else Err (TestFailed i)
performed i (Changes path change) d = ok_or (changed_at change path d) (PathMissing i)

abbrev pub then_by : Result Data PatchRefusal → (Data → Result Data PatchRefusal) → Result Data PatchRefusal
then_by (Ok d) f = f d
then_by (Err e) f = Err e

-- in order, the first of them with the number i
abbrev pub performed_from : ℕ → List Operation → Data → Result Data PatchRefusal
performed_from i [] d = Ok d
performed_from i (o ∷ os) d = then_by (performed i o d) (performed_from (suc i) os)

-- what a call answered, and the document that it left, are what is wanted, unless memory ran out
abbrev pub Fails : PatchRefusal → Result Data PatchRefusal → Type 0
Fails NoMemory wanted = Unit {0}
Fails NotFound wanted = wanted ≡ Err NotFound
Fails (TestFailed i) wanted = wanted ≡ Err (TestFailed i)
Fails (PathMissing i) wanted = wanted ≡ Err (PathMissing i)
Fails NotAnObject wanted = wanted ≡ Err NotAnObject

abbrev pub Performs : {U : Type 0} → Result U PatchRefusal → Data → Result Data PatchRefusal → Type 0
Performs (Ok u) left wanted = wanted ≡ Ok left
Performs (Err e) left wanted = Fails e wanted

-- ---- the object stays that object

-- the text that the metadata hold under a name; none where no text stands there
abbrev pub text_of : List ℕ → Data → Option (List ℕ)
text_of name d = option_and_then as_str (option_and_then (get name) (get (codes "metadata") d))

abbrev pub has_same : List ℕ → Data → Data → Bool
has_same name d e = option_eq bytes_eq (text_of name d) (text_of name e)

-- the same name, namespace and uid
abbrev pub is_same_object : Data → Data → Bool
is_same_object d e = has_same (codes "name") d e && has_same (codes "namespace") d e && has_same (codes "uid") d e

abbrev pub is_read : Result ObjectData ObjectFault → Bool
is_read (Ok o) = true
is_read (Err e) = false

-- an object can be read of it
abbrev pub is_object : Data → Bool
is_object d = is_read (object_data_at d)

-- it is an object after, and has the name, namespace and uid that it had before
abbrev pub stays : Data → Data → Bool
stays before after = is_object after && is_same_object before after

abbrev pub unless_changed : Bool → Data → Result Data PatchRefusal
unless_changed true d = Ok d
unless_changed false d = Err NotAnObject

-- the document after a patch, or why it is refused
abbrev pub patched : List Operation → Data → Result Data PatchRefusal
patched os d = then_by (performed_from 0 os d) (λ e. unless_changed (stays d e) e)
