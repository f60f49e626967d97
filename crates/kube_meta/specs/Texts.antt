-- Texts in the order of their bytes, each once, as a set has them.
use Rattle.std.specs.Prelude.{ℕ, Bool, false, ◌||◌, List, [], ◌∷◌, string_bytes}
use Rattle.std.specs.Ordering.{nat_cmp, match_ordering}
use Rattle.std.specs.Cmp.Lexicographic.{slice_cmp}
use Rattle.std.specs.Str.{bytes_eq}
use Rattle.std.specs.declared.string.String.{String}

-- the bytes of each text
abbrev pub texts_of : {A : Type 0} → List (String A) → List (List ℕ)
texts_of [] = []
texts_of (s ∷ ss) = string_bytes s ∷ texts_of ss

-- whether the text is one of these
abbrev pub is_among : List ℕ → List (List ℕ) → Bool
is_among text [] = false
is_among text (t ∷ ts) = bytes_eq text t || is_among text ts

-- the texts with this one, which is put where it belongs unless it is there
abbrev pub with_text : List ℕ → List (List ℕ) → List (List ℕ)
with_text text [] = text ∷ []
with_text text (t ∷ ts) = match_ordering (slice_cmp nat_cmp text t) (text ∷ t ∷ ts) (t ∷ ts) (t ∷ with_text text ts)
