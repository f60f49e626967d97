-- Label selectors (Kubernetes API concept "labels and selectors"), over the pairs of an object's labels.
use Rattle.std.specs.Prelude.{ℕ, Bool, true, false, not, ◌&&◌, List, [], ◌∷◌, ◌++◌, Option, Some, None, is_some, codes}
use Rattle.std.specs.Str.{bytes_eq}
use Rattle.kube_meta.specs.Pairs.{text_at}
use Rattle.kube_meta.specs.Texts.{is_among}
use Rattle.kube_meta.specs.declared.selector.Expression.{Expression}
use Rattle.kube_meta.specs.declared.selector.Expression.TheVariants.{In, NotIn, Equal, NotEqual, Exists, DoesNotExist}

-- the label is there with one of these values
abbrev pub is_one_of : List (List ℕ) → Option (List ℕ) → Bool
is_one_of values None = false
is_one_of values (Some text) = is_among text values

-- the label is there with this value
abbrev pub is_value : List ℕ → Option (List ℕ) → Bool
is_value value None = false
is_value value (Some text) = bytes_eq text value

-- whether an expression holds of labels
abbrev pub holds : Expression → List (List ℕ × List ℕ) → Bool
holds (In key values) labels = is_one_of values (text_at key labels)
holds (NotIn key values) labels = not (is_one_of values (text_at key labels))
holds (Equal key value) labels = is_value value (text_at key labels)
holds (NotEqual key value) labels = not (is_value value (text_at key labels))
holds (Exists key) labels = is_some (text_at key labels)
holds (DoesNotExist key) labels = not (is_some (text_at key labels))

-- whether each expression holds
abbrev pub selects : List Expression → List (List ℕ × List ℕ) → Bool
selects [] labels = true
selects (e ∷ es) labels = holds e labels && selects es labels

-- texts behind commas
abbrev pub behind_commas : List (List ℕ) → List ℕ
behind_commas [] = []
behind_commas (t ∷ ts) = 44 ∷ (t ++ behind_commas ts)

-- texts with commas between them
abbrev pub with_commas : List (List ℕ) → List ℕ
with_commas [] = []
with_commas (t ∷ ts) = t ++ behind_commas ts

-- how an expression is written
abbrev pub expression_text : Expression → List ℕ
expression_text (In key values) = key ++ (codes " in (" ++ (with_commas values ++ codes ")"))
expression_text (NotIn key values) = key ++ (codes " notin (" ++ (with_commas values ++ codes ")"))
expression_text (Equal key value) = key ++ (codes "=" ++ value)
expression_text (NotEqual key value) = key ++ (codes "!=" ++ value)
expression_text (Exists key) = key
expression_text (DoesNotExist key) = codes "!" ++ key

abbrev pub expression_texts : List Expression → List (List ℕ)
expression_texts [] = []
expression_texts (e ∷ es) = expression_text e ∷ expression_texts es

-- how a selector is written, as the API's parameter `labelSelector` has it
abbrev pub selector_text : List Expression → List ℕ
selector_text es = with_commas (expression_texts es)
