-- An index of the places of references, in their order: how a cache finds what is stored, which no clause of it shows.
use Rattle.std.specs.Prelude.{◌≡◌, ℕ, ◌+◌, ◌-◌, ◌*◌, ◌^◌, ◌<◌, ◌≤◌, nat_lt, List, [], map, length, None, Result, Ok, Err, Bool, if◌then◌else◌, slice_index_or}
use Rattle.std.specs.declared.cmp.Ordering.{Ordering}
use Rattle.std.specs.declared.cmp.Ordering.TheVariants.{Less}
use Rattle.std.specs.Ordering.{nat_cmp, ordering_then}
use Rattle.std.specs.Cmp.Lexicographic.{slice_cmp}
use Rattle.std.specs.Option.{option_cmp}
use Rattle.kube_meta.specs.Reference.{ObjectType, Reference, without_namespace}

-- texts by their bytes
abbrev pub text_cmp : List ℕ → List ℕ → Ordering
text_cmp = slice_cmp nat_cmp

-- types by group, version, kind and plural
abbrev pub type_cmp : ObjectType → ObjectType → Ordering
type_cmp a b =
    ordering_then (text_cmp a.group b.group)
    (ordering_then (text_cmp a.version b.version) (ordering_then (text_cmp a.kind b.kind) (text_cmp a.plural b.plural)))

-- references by namespace, none before any, then by name and by type: in this order an API server lists
abbrev pub reference_cmp : Reference → Reference → Ordering
reference_cmp a b =
    ordering_then (option_cmp text_cmp a.namespace b.namespace) (ordering_then (text_cmp a.name b.name) (type_cmp a.kind b.kind))

abbrev pub no_type : ObjectType
no_type = record { group = []; version = []; kind = []; plural = [] }

-- what is read beyond the end of a list of references
abbrev pub no_reference : Reference
no_reference = record { kind = no_type; name = []; namespace = None }

-- what is looked for: a reference, or it without its namespace
abbrev pub sought : Bool → Reference → Reference
sought within r = if within then r else without_namespace r

-- the references of what is stored
abbrev pub references : {O : Type 0} → List (Reference × O) → List Reference
references store = map (λ p. p.0) store

-- each of the first n places stands once
pub record AreAll (n : ℕ) (places : List ℕ) : Type 0 where
  pub len : length places ≡ n
  pub within : (k : ℕ) → k < n → slice_index_or places k 0 < n
  pub covers : (p : ℕ) → p < n → (k : ℕ) × (k < n) × (slice_index_or places k 0 ≡ p)

-- Places of a list of keys.
module _ {R : Type 0} (cmp : R → R → Ordering) (none : R) where
  -- the key at the place that stands at k
  abbrev pub key_at : List R → List ℕ → ℕ → R
  key_at keys places k = slice_index_or keys (slice_index_or places k 0) none

  -- each place stands once, and the keys at the places rise
  pub record IsIndexBy (keys : List R) (places : List ℕ) : Type 0 where
    pub len : length places ≡ length keys
    pub within : (k : ℕ) → k < length keys → slice_index_or places k 0 < length keys
    pub rises : (i k : ℕ) → i < k → k < length keys → cmp (key_at keys places i) (key_at keys places k) ≡ Less
    pub covers : (p : ℕ) → p < length keys → (k : ℕ) × (k < length keys) × (slice_index_or places k 0 ≡ p)

  -- the keys at places before k come before this key
  abbrev pub IsBelow : List R → List ℕ → R → ℕ → Type 0
  IsBelow keys places key k = (i : ℕ) → i < k → cmp (key_at keys places i) key ≡ Less

  -- those at places from k on come behind it
  abbrev pub IsAbove : List R → List ℕ → R → ℕ → Type 0
  IsAbove keys places key k = (i : ℕ) → k ≤ i → i < length keys → cmp key (key_at keys places i) ≡ Less

  -- the key stands here, or it would
  abbrev pub IsSearchedBy : List R → List ℕ → R → Result ℕ ℕ → Type 0
  IsSearchedBy keys places key (Ok k) = (k < length keys) × (key_at keys places k ≡ key)
  IsSearchedBy keys places key (Err k) = (k ≤ length keys) × IsBelow keys places key k × IsAbove keys places key k

-- a place after another one was closed up
abbrev pub closed_up : ℕ → ℕ → ℕ
closed_up place p = if nat_lt place p then p - 1 else p

-- each place of what is stored stands once, in the order of the references there
abbrev pub IsIndex : List Reference → List ℕ → Type 0
IsIndex = IsIndexBy reference_cmp no_reference

abbrev pub IsSearched : List Reference → List ℕ → Reference → Result ℕ ℕ → Type 0
IsSearched = IsSearchedBy reference_cmp no_reference

-- from one count of steps to another a look-up among n took so few that 2 to their number is at most 2n + 1
pub record IsLookUp (n before after : ℕ) : Type 0 where
  pub taken : ℕ
  pub counted : after ≡ before + taken
  pub bound : 2 ^ taken ≤ 2 * n + 1

-- two look-ups, one after the other
pub record AreTwoLookUps (n before after : ℕ) : Type 0 where
  pub between : ℕ
  pub first : IsLookUp n before between
  pub second : IsLookUp n between after
