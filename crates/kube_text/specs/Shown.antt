-- Data as a writer of JSON's tokens shows it, and an object's members one after the other.
use Rattle.std.specs.Prelude.{◌≡◌, ℕ, List, ◌++◌, Option, Some, None, Result, OnOk, OnErr, map}
use Rattle.json.specs.Token.{Token}
use Rattle.json.specs.Tree.{json_tokens, items_tokens, members_tokens}
use Rattle.json.specs.Written.{Written, WritesFront}
use Rattle.serde_json.specs.Data.{Data, null, array, Items, Members, member}
use Rattle.serde_json.specs.View.{items_of}
use Rattle.serde_json.specs.Written.{outline, items_outline, members_outline}

-- the tokens of data
unfoldable pub tokens_of : Data → List Token
tokens_of d = json_tokens (outline d)

-- those of items, with the closing bracket
unfoldable pub item_tokens : List Data → List Token
item_tokens ds = items_tokens (items_outline (items_of ds))

-- the same, of items as data has them
unfoldable pub items_left : Items → List Token
items_left ds = items_tokens (items_outline ds)

-- those of members, with the closing brace
unfoldable pub member_tokens : Members → List Token
member_tokens ms = members_tokens (members_outline ms)

abbrev pub or_null : Option Data → Data
or_null None = null
or_null (Some d) = d

-- the items as an array
abbrev pub array_of : {A : Type 0} → (A → Data) → List A → Data
array_of data_of xs = array (items_of (map data_of xs))

-- a member where its value is there
abbrev pub member_if : List ℕ → Option Data → Members → Members
member_if name None rest = rest
member_if name (Some d) rest = member name d rest

-- some members were shown: with any rest behind them they are what is still to be shown
abbrev pub ShowsMembers : {T E : Type 0} → Result T E → Written → Written → (Members → Members) → Type 0
ShowsMembers result old new members =
    (rest : Members) → OnOk result (old.tokens ++ member_tokens (members rest) ≡ new.tokens ++ member_tokens rest)

-- where that failed the first of their tokens were shown, or none
abbrev pub ShowsFront : {T E : Type 0} → Result T E → Written → Written → (Members → Members) → Type 0
ShowsFront result old new members =
    (rest : Members) → OnErr result (WritesFront old.tokens new.tokens (member_tokens (members rest)))

-- what was shown before is there, with more behind it, or none
abbrev pub IsMore : List Token → List Token → Type 0
IsMore old new = (more : List Token) × (new ≡ old ++ more)
