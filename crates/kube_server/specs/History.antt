-- What the objects of a server went through: changes, the first of which has revision 1, and the state at a revision. V is the type of the objects; what their metadata are is handed in. (Kubernetes API concept "resource versions".)
use Rattle.std.specs.Prelude.{◌≡◌, ℕ, ◌+◌, ◌≤◌, Bool, List, [], ◌∷◌, ◌++◌, length, take, map, fold, Option, Some, None, if◌then◌else◌, unwrap_or, option_map, decimal, IsSome, true}
use Rattle.std.specs.declared.cmp.Ordering.{Ordering}
use Rattle.std.specs.Ordering.{nat_cmp, ordering_then, match_ordering, is_eq}
use Rattle.std.specs.Option.{option_cmp}
use Rattle.std.specs.Cmp.Lexicographic.{slice_cmp}
use Rattle.std.specs.Map.{lookup, remove_entry}
use Rattle.kube_meta.specs.declared.metadata.ObjectMeta.{ObjectMeta}
use Rattle.kube_meta.specs.Keys.{is_named}

-- ---- keys

-- where an object stands: its namespace or none, and its name
pub record Key : Type 0 where
  pub namespace : Option (List ℕ)
  pub name : List ℕ

-- the key of an object that has a name
abbrev pub key_of : ObjectMeta → Key
key_of m = record { namespace = m.namespace; name = unwrap_or m.name [] }

-- by namespace, none before any, and then by name, both by bytes
abbrev pub key_cmp : Key → Key → Ordering
key_cmp a b = ordering_then (option_cmp (slice_cmp nat_cmp) a.namespace b.namespace) (slice_cmp nat_cmp a.name b.name)

abbrev pub same_key : Key → Key → Bool
same_key a b = is_eq (key_cmp a b)

-- ---- states: each key once, with its object, in the keys' order

abbrev pub State : Type 0 → Type 0
State V = List (Key × V)

-- the object of a key
abbrev pub object_at : {V : Type 0} → Key → State V → Option V
object_at key state = lookup (same_key key) state

-- with an object in the place of its key, or where its key belongs
abbrev pub with_object : {V : Type 0} → Key → V → State V → State V
with_object key object [] = (key, object) ∷ []
with_object key object (p ∷ ps) =
    match_ordering (key_cmp key p.0) ((key, object) ∷ p ∷ ps) ((p.0, object) ∷ ps) (p ∷ with_object key object ps)

-- without the object of a key
abbrev pub without_object : {V : Type 0} → Key → State V → State V
without_object key state = remove_entry (same_key key) state

-- the objects, in the keys' order
abbrev pub objects_of : {V : Type 0} → State V → List V
objects_of state = map (λ p. p.1) state

-- ---- changes

-- an object that is new, one that takes the place of another, or one that goes, as it was last
pub data Change (V : Type 0) : Type 0 where
  Adds : (object : V) → Change V
  Modifies : (object : V) → Change V
  Removes : (object : V) → Change V

-- the object of a change
abbrev pub object_of : {V : Type 0} → Change V → V
object_of (Adds object) = object
object_of (Modifies object) = object
object_of (Removes object) = object

-- the same change of what an object is seen as
abbrev pub change_seen : {V W : Type 0} → (V → W) → Change V → Change W
change_seen f (Adds object) = Adds (f object)
change_seen f (Modifies object) = Modifies (f object)
change_seen f (Removes object) = Removes (f object)

-- what a change makes of a state
abbrev pub changed : {V : Type 0} → (V → ObjectMeta) → State V → Change V → State V
changed meta state (Adds object) = with_object (key_of (meta object)) object state
changed meta state (Modifies object) = with_object (key_of (meta object)) object state
changed meta state (Removes object) = without_object (key_of (meta object)) state

-- what is then found under a key, under which this was found before
abbrev pub found_after : {V : Type 0} → (V → ObjectMeta) → Key → Option V → Change V → Option V
found_after meta key found (Adds object) = if same_key key (key_of (meta object)) then Some object else found
found_after meta key found (Modifies object) = if same_key key (key_of (meta object)) then Some object else found
found_after meta key found (Removes object) = if same_key key (key_of (meta object)) then None else found

-- what changes, one after another, make of nothing
abbrev pub state_of : {V : Type 0} → (V → ObjectMeta) → List (Change V) → State V
state_of meta changes = fold (changed meta) [] changes

-- the state at a revision: all changes up to it
abbrev pub state_at : {V : Type 0} → (V → ObjectMeta) → List (Change V) → ℕ → State V
state_at meta changes revision = state_of meta (take revision changes)

-- ---- histories

-- a change fits the state before it: what is new was not there, and what is changed or goes was
abbrev pub Fits : {V : Type 0} → (V → ObjectMeta) → State V → Change V → Type 0
Fits meta state (Adds object) = object_at (key_of (meta object)) state ≡ None
Fits meta state (Modifies object) = IsSome (object_at (key_of (meta object)) state)
Fits meta state (Removes object) = IsSome (object_at (key_of (meta object)) state)

-- a change after these: its object has a name, and its revision as version
pub record IsNextChange {V : Type 0} (meta : V → ObjectMeta) (before : List (Change V)) (change : Change V) : Type 0 where
  pub named : is_named (meta (object_of change)) ≡ true
  pub versioned : (meta (object_of change)).resource_version ≡ Some (decimal (length before + 1))
  pub fits : Fits meta (state_of meta before) change

-- these are such changes, one after another
abbrev pub IsHistoryAfter : {V : Type 0} → (V → ObjectMeta) → List (Change V) → List (Change V) → Type 0
IsHistoryAfter meta before [] = Unit {0}
IsHistoryAfter meta before (change ∷ changes) = IsNextChange meta before change × IsHistoryAfter meta (before ++ change ∷ []) changes

-- a history: each change raises the revision by one, so the change of revision r is the r-th
abbrev pub IsHistory : {V : Type 0} → (V → ObjectMeta) → List (Change V) → Type 0
IsHistory meta changes = IsHistoryAfter meta [] changes

-- more happened: further changes, and a compaction that isn't lower
pub record IsLater {V : Type 0} (old new : List (Change V)) (compacted_old compacted_new : ℕ) : Type 0 where
  pub more : List (Change V)
  pub goes_on : new ≡ old ++ more
  pub rises : compacted_old ≤ compacted_new
