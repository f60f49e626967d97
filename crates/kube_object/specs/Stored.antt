-- How the logic stores an object that contracts see as data: a value as the pieces that build it, each piece behind those that it needs.
use Rattle.std.specs.Prelude.{◌≡◌, ℕ, ℤ, true, false, cond, ◌==◌, List, [], ◌∷◌, Option, refl}
use Rattle.std.specs.Float.{Float}
use Rattle.std.specs.Coded.{Coded, code_by, coded×, coded⊎, coded_ℕ, coded_ℤ, coded_list, coded_option}
use base.Stored.{coded_float}
use mathlib.Core.Path.{ap, ◌∙◌}
use mathlib.Core.Logic.{◌⊎◌, inl, inr}
use Rattle.serde_json.specs.Data.{Num, unsigned, negative, float, Data, null, boolean, number, string, array, object, Items, no_items, item, Members, no_members, member}
use Rattle.kube_meta.specs.declared.metadata.ObjectMeta.{ObjectMeta}
use Rattle.kube_meta.specs.declared.metadata.TypeMeta.{TypeMeta}
use Rattle.kube_meta.specs.contracts.metadata.ObjectMeta.{the_row as meta_row}
use Rattle.kube_meta.specs.contracts.metadata.TypeMeta.{the_row as types_row}
use Rattle.kube_meta.specs.Reading.{ObjectData}

-- ---- numbers

abbrev to_sum : Num → ℕ ⊎ (ℤ ⊎ Float)
to_sum (unsigned n) = inl n
to_sum (negative z) = inr (inl z)
to_sum (float x) = inr (inr x)

abbrev from_sum : ℕ ⊎ (ℤ ⊎ Float) → Num
from_sum (inl n) = unsigned n
from_sum (inr (inl z)) = negative z
from_sum (inr (inr x)) = float x

pub from_sum-to_sum : (n : Num) → from_sum (to_sum n) ≡ n
from_sum-to_sum (unsigned n) = refl
from_sum-to_sum (negative z) = refl
from_sum-to_sum (float x) = refl

-- ---- pieces: a tag, a text and a number

abbrev Piece : Type 0
Piece = ℕ × (List ℕ × Num)

abbrev tag : ℕ → Piece
tag t = (t, ([], unsigned 0))

abbrev mutual
  pieces : Data → List Piece → List Piece
  pieces null ps = tag 0 ∷ ps
  pieces (boolean true) ps = tag 1 ∷ ps
  pieces (boolean false) ps = tag 2 ∷ ps
  pieces (number n) ps = (3, ([], n)) ∷ ps
  pieces (string s) ps = (4, (s, unsigned 0)) ∷ ps
  pieces (array ds) ps = item_pieces ds (tag 5 ∷ ps)
  pieces (object ms) ps = member_pieces ms (tag 6 ∷ ps)

  item_pieces : Items → List Piece → List Piece
  item_pieces no_items ps = tag 7 ∷ ps
  item_pieces (item d ds) ps = pieces d (item_pieces ds (tag 8 ∷ ps))

  member_pieces : Members → List Piece → List Piece
  member_pieces no_members ps = tag 9 ∷ ps
  member_pieces (member k d ms) ps = pieces d (member_pieces ms ((10, (k, unsigned 0)) ∷ ps))

-- ---- building again

-- what was built and is not yet part of another
pub record Built : Type 0 where
  pub data_built : List Data
  pub items_built : List Items
  pub members_built : List Members

abbrev top_data : List Data → Data
top_data [] = null
top_data (d ∷ ds) = d

abbrev top_items : List Items → Items
top_items [] = no_items
top_items (x ∷ xs) = x

abbrev top_members : List Members → Members
top_members [] = no_members
top_members (x ∷ xs) = x

abbrev rest : {A : Type 0} → List A → List A
rest [] = []
rest (x ∷ xs) = xs

abbrev with_data : Data → Built → Built
with_data d b = record { data_built = d ∷ b.data_built; items_built = b.items_built; members_built = b.members_built }

abbrev with_items : Items → Built → Built
with_items ds b = record { data_built = b.data_built; items_built = ds ∷ b.items_built; members_built = b.members_built }

abbrev with_members : Members → Built → Built
with_members ms b = record { data_built = b.data_built; items_built = b.items_built; members_built = ms ∷ b.members_built }

abbrev wrapped_items : Built → Built
wrapped_items b = record { data_built = array (top_items b.items_built) ∷ b.data_built; items_built = rest b.items_built; members_built = b.members_built }

abbrev wrapped_members : Built → Built
wrapped_members b = record { data_built = object (top_members b.members_built) ∷ b.data_built; items_built = b.items_built; members_built = rest b.members_built }

abbrev longer_items : Built → Built
longer_items b = record {
  data_built = rest b.data_built;
  items_built = item (top_data b.data_built) (top_items b.items_built) ∷ rest b.items_built;
  members_built = b.members_built;
}

abbrev longer_members : List ℕ → Built → Built
longer_members k b = record {
  data_built = rest b.data_built;
  items_built = b.items_built;
  members_built = member k (top_data b.data_built) (top_members b.members_built) ∷ rest b.members_built;
}

abbrev built : Piece → Built → Built
built p b =
    cond (p.0 == 0) (with_data null b) (cond (p.0 == 1) (with_data (boolean true) b) (cond (p.0 == 2) (with_data (boolean false) b)
    (cond (p.0 == 3) (with_data (number p.1.1) b) (cond (p.0 == 4) (with_data (string p.1.0) b) (cond (p.0 == 5) (wrapped_items b)
    (cond (p.0 == 6) (wrapped_members b) (cond (p.0 == 7) (with_items no_items b) (cond (p.0 == 8) (longer_items b)
    (cond (p.0 == 9) (with_members no_members b) (longer_members p.1.0 b))))))))))

abbrev run : List Piece → Built → Built
run [] b = b
run (p ∷ ps) b = run ps (built p b)

mutual
  pub builds : (d : Data) (ps : List Piece) (b : Built) → run (pieces d ps) b ≡ run ps (with_data d b)
  builds null ps b = refl
  builds (boolean true) ps b = refl
  builds (boolean false) ps b = refl
  builds (number n) ps b = refl
  builds (string s) ps b = refl
  builds (array ds) ps b = builds_items ds (tag 5 ∷ ps) b
  builds (object ms) ps b = builds_members ms (tag 6 ∷ ps) b

  pub builds_items : (ds : Items) (ps : List Piece) (b : Built) → run (item_pieces ds ps) b ≡ run ps (with_items ds b)
  builds_items no_items ps b = refl
  builds_items (item d ds) ps b = builds d (item_pieces ds (tag 8 ∷ ps)) b ∙ builds_items ds (tag 8 ∷ ps) (with_data d b)

  pub builds_members : (ms : Members) (ps : List Piece) (b : Built) → run (member_pieces ms ps) b ≡ run ps (with_members ms b)
  builds_members no_members ps b = refl
  builds_members (member k d ms) ps b = builds d (member_pieces ms ((10, (k, unsigned 0)) ∷ ps)) b ∙ builds_members ms ((10, (k, unsigned 0)) ∷ ps) (with_data d b)

abbrev nothing_built : Built
nothing_built = record { data_built = []; items_built = []; members_built = [] }

abbrev data_code : Coded Data
data_code =
    code_by (List Piece) (coded_list (coded× coded_ℕ (coded× (coded_list coded_ℕ) (code_by (ℕ ⊎ (ℤ ⊎ Float)) (coded⊎ coded_ℕ (coded⊎ coded_ℤ coded_float)) to_sum from_sum from_sum-to_sum))))
    (λ d. pieces d []) (λ ps. top_data (run ps nothing_built).data_built) (λ d. ap (λ b. top_data b.data_built) (builds d [] nothing_built))

-- ---- objects

abbrev pub object_code : Coded ObjectData
object_code =
    code_by (Option TypeMeta × (ObjectMeta × Data)) (coded× (coded_option types_row.coded) (coded× meta_row.coded data_code))
    (λ o. (o.types, (o.metadata, o.content))) (λ p. record { types = p.0; metadata = p.1.0; content = p.1.1 }) (λ _. refl)
