-- Pairs of texts in the order of their keys, as a map of labels or annotations has them.
use Rattle.std.specs.Prelude.{ℕ, List, [], ◌∷◌, Option, Some, None, string_bytes, if◌then◌else◌}
use Rattle.std.specs.Ordering.{nat_cmp, match_ordering}
use Rattle.std.specs.Cmp.Lexicographic.{slice_cmp}
use Rattle.std.specs.Str.{bytes_eq}
use Rattle.std.specs.declared.string.String.{String}

-- the bytes of each pair
abbrev pub pairs_of : {A : Type 0} → List (String A × List ℕ) → List (List ℕ × List ℕ)
pairs_of [] = []
pairs_of (p ∷ ps) = (string_bytes p.0, p.1) ∷ pairs_of ps

-- the text under a key
abbrev pub text_at : List ℕ → List (List ℕ × List ℕ) → Option (List ℕ)
text_at key [] = None
text_at key (p ∷ ps) = if bytes_eq key p.0 then Some p.1 else text_at key ps

-- the pairs with this one in the place of its key's, or where its key belongs
abbrev pub with_pair : List ℕ → List ℕ → List (List ℕ × List ℕ) → List (List ℕ × List ℕ)
with_pair key text [] = (key, text) ∷ []
with_pair key text (p ∷ ps) =
    match_ordering (slice_cmp nat_cmp key p.0) ((key, text) ∷ p ∷ ps) ((p.0, text) ∷ ps) (p ∷ with_pair key text ps)
