-- What predicates make of the properties of an object: a fold over their bytes, which is FNV-1a of 64 bits. (Crate: `utils::predicate`.)
use Rattle.std.specs.Prelude.{◌≡◌, ◌⊎◌, ℕ, ◌*◌, ◌%◌, ◌^◌, List, [], ◌∷◌, ◌++◌, length, Option, None, Some, unwrap_or, fold, bit_xor}
use Rattle.std.specs.List.{flat_map}
use Rattle.std.specs.Option.{option_map}
use Rattle.std.specs.Int.{w64, cast_unsigned}
use Rattle.std.specs.Hash.{le_bytes}
use Rattle.kube_meta.specs.declared.metadata.ObjectMeta.{ObjectMeta}

-- the fold after one byte more
abbrev pub folded_byte : ℕ → ℕ → ℕ
folded_byte h byte = (bit_xor h byte * 1099511628211) % 2 ^ 64

abbrev pub folded : ℕ → List ℕ → ℕ
folded h bytes = fold folded_byte h bytes

-- a number of 64 bits: its 8 bytes, the lowest first
abbrev pub number_bytes : ℕ → List ℕ
number_bytes n = le_bytes 8 n

-- a text: its length, and its bytes
abbrev pub text_bytes : List ℕ → List ℕ
text_bytes text = number_bytes (length text) ++ text

-- texts: their count, and each
abbrev pub list_bytes : List (List ℕ) → List ℕ
list_bytes texts = number_bytes (length texts) ++ flat_map text_bytes texts

abbrev pub pair_bytes : List ℕ × List ℕ → List ℕ
pair_bytes pair = text_bytes pair.0 ++ text_bytes pair.1

-- a map: the count of its pairs, and each key with its text
abbrev pub map_bytes : List (List ℕ × List ℕ) → List ℕ
map_bytes pairs = number_bytes (length pairs) ++ flat_map pair_bytes pairs

-- the value of a property: the fold over a tag, which says which property it is, and its bytes
abbrev pub hashed : ℕ → List ℕ → ℕ
hashed tag bytes = folded 14695981039346656037 (tag ∷ bytes)

-- ---- the properties; an absent map or list counts as empty

abbrev pub generation_value : ObjectMeta → Option ℕ
generation_value meta = option_map (λ g. hashed 1 (number_bytes (cast_unsigned w64 g))) meta.generation

abbrev pub version_value : ObjectMeta → Option ℕ
version_value meta = option_map (λ version. hashed 2 (text_bytes version)) meta.resource_version

abbrev pub labels_value : ObjectMeta → Option ℕ
labels_value meta = Some (hashed 3 (map_bytes (unwrap_or meta.labels [])))

abbrev pub annotations_value : ObjectMeta → Option ℕ
annotations_value meta = Some (hashed 4 (map_bytes (unwrap_or meta.annotations [])))

abbrev pub finalizers_value : ObjectMeta → Option ℕ
finalizers_value meta = Some (hashed 5 (list_bytes (unwrap_or meta.finalizers [])))

-- ---- two values

-- what the first gives, or what the second gives where the first gives none
abbrev pub FallsBack : (Option ℕ → Type 0) → (Option ℕ → Type 0) → Option ℕ → Type 0
FallsBack first second None = first None × second None
FallsBack first second (Some value) = first (Some value) ⊎ (first None × second (Some value))

-- a part of what is combined: one byte that says whether it is there, and the value
abbrev pub part_bytes : Option ℕ → List ℕ
part_bytes None = 0 ∷ []
part_bytes (Some value) = 1 ∷ number_bytes value

-- both, or none where neither is there
abbrev pub combined : Option ℕ → Option ℕ → Option ℕ
combined None None = None
combined None (Some b) = Some (hashed 6 (part_bytes None ++ part_bytes (Some b)))
combined (Some a) b = Some (hashed 6 (part_bytes (Some a) ++ part_bytes b))

-- what the first and the second give, combined
pub record Combines (first second : Option ℕ → Type 0) (given : Option ℕ) : Type 0 where
  pub a : Option ℕ
  pub b : Option ℕ
  pub gives_a : first a
  pub gives_b : second b
  pub value : given ≡ combined a b
