-- Parts of a value, and what a map or a list has after one was changed.
use Rattle.std.proofs.Common.{◌≡◌, ℕ, zero, suc, ◌-◌, ◌<◌, ◌≤◌, List, [], ◌∷◌, length, get_or, take, drop, slice_set, Option, Some, None, option_map, String, Global, string_bytes, cond, Bool, true, false, bytes_eq, refl, sym, ap, ◌∙◌, arith, length-drop}
use Rattle.std.proofs.lemmas.Map.Text.{is_eq-slice_cmp}
use Rattle.std.proofs.lemmas.Option.{same_Some, none-some}
use Rattle.std.specs.BTreeMap.{is_at}
use Rattle.std.specs.Cmp.Lexicographic.{slice_cmp}
use Rattle.std.specs.List.{insert, remove}
use Rattle.std.specs.Map.{lookup, set_value, remove_entry}
use Rattle.std.specs.Ordering.{nat_cmp}
use Rattle.serde_json.specs.Data.{Data, item, member}
use Rattle.serde_json.specs.View.{view, items_view, members_view}
use Rattle.serde_json.specs.declared.value.Value.{Value}
use Rattle.serde_json.proofs.Views.{Entry}
use Rattle.kube_api.specs.Patches.{Change, changed_by, changed_part, changed_member, changed_item, inserted_item, removed_item, removed_member}

-- whether a key is this name
abbrev pub at : List ℕ → String Global → Bool
at name = is_at (λ k. slice_cmp nat_cmp name (string_bytes k))

-- ---- members

here : (f : Data → Option Data) (e : Entry) (es : List Entry) (before : Value) (after : Option Value) → f (view before) ≡ option_map view after → e.1 ≡ before
    → option_map (λ d. member (string_bytes e.0) d (members_view es)) (f (view e.1)) ≡ option_map (λ w. members_view ((e.0, w) ∷ es)) after
here f e es before None made same = rw (same, made) refl
here f e es before (Some w) made same = rw (same, made) refl

behind : (e : Entry) (es : List Entry) (name : List ℕ) (after : Option Value)
    → option_map (member (string_bytes e.0) (view e.1)) (option_map (λ w. members_view (set_value (at name) es w)) after) ≡ option_map (λ w. members_view (e ∷ set_value (at name) es w)) after
behind e es name None = refl
behind e es name (Some w) = refl

changed_by_test : (b : Bool) (f : Data → Option Data) (name : List ℕ) (e : Entry) (es : List Entry) (before : Value) (after : Option Value) → f (view before) ≡ option_map view after
    → cond b (Some e.1) (lookup (at name) es) ≡ Some before
    → (lookup (at name) es ≡ Some before → changed_member f name (members_view es) ≡ option_map (λ w. members_view (set_value (at name) es w)) after)
    → cond b (option_map (λ d. member (string_bytes e.0) d (members_view es)) (f (view e.1))) (option_map (member (string_bytes e.0) (view e.1)) (changed_member f name (members_view es)))
    ≡ option_map (λ w. members_view (cond b ((e.0, w) ∷ es) (e ∷ set_value (at name) es w))) after
changed_by_test true f name e es before after made is later = here f e es before after made (same_Some e.1 before is)
changed_by_test false f name e es before after made is later = ap (option_map (member (string_bytes e.0) (view e.1))) (later is) ∙ behind e es name after

-- the member of a name is changed, or the change refuses it
pub changed_there : (f : Data → Option Data) (name : List ℕ) (es : List Entry) (before : Value) (after : Option Value) → f (view before) ≡ option_map view after → lookup (at name) es ≡ Some before
    → changed_member f name (members_view es) ≡ option_map (λ w. members_view (set_value (at name) es w)) after
changed_there f name [] before after made is = absurd (none-some before is)
changed_there f name (e ∷ es) before after made is =
    let test = is_eq-slice_cmp name (string_bytes e.0) in
    let read : cond (bytes_eq name (string_bytes e.0)) (Some e.1) (lookup (at name) es) ≡ Some before = ap (λ b. cond b (Some e.1) (lookup (at name) es)) (sym test) ∙ is in
    changed_by_test (bytes_eq name (string_bytes e.0)) f name e es before after made read (changed_there f name es before after made)
    ∙ ap (λ b. option_map (λ w. members_view (cond b ((e.0, w) ∷ es) (e ∷ set_value (at name) es w))) after) (sym test)

missing_by_test : (b : Bool) (f : Data → Option Data) (name : List ℕ) (e : Entry) (es : List Entry) → cond b (Some e.1) (lookup (at name) es) ≡ None → (lookup (at name) es ≡ None → changed_member f name (members_view es) ≡ None)
    → cond b (option_map (λ d. member (string_bytes e.0) d (members_view es)) (f (view e.1))) (option_map (member (string_bytes e.0) (view e.1)) (changed_member f name (members_view es))) ≡ None
missing_by_test true f name e es is later = absurd (none-some e.1 (sym is))
missing_by_test false f name e es is later = ap (option_map (member (string_bytes e.0) (view e.1))) (later is)

-- there is no member of a name
pub changed_nowhere : (f : Data → Option Data) (name : List ℕ) (es : List Entry) → lookup (at name) es ≡ None → changed_member f name (members_view es) ≡ None
changed_nowhere f name [] is = refl
changed_nowhere f name (e ∷ es) is =
    missing_by_test (bytes_eq name (string_bytes e.0)) f name e es (ap (λ b. cond b (Some e.1) (lookup (at name) es)) (sym (is_eq-slice_cmp name (string_bytes e.0))) ∙ is) (changed_nowhere f name es)

removed_by_test : (b : Bool) (name : List ℕ) (e : Entry) (es : List Entry) (before : Value) → cond b (Some e.1) (lookup (at name) es) ≡ Some before
    → (lookup (at name) es ≡ Some before → removed_member name (members_view es) ≡ Some (members_view (remove_entry (at name) es)))
    → cond b (Some (members_view es)) (option_map (member (string_bytes e.0) (view e.1)) (removed_member name (members_view es))) ≡ Some (members_view (cond b es (e ∷ remove_entry (at name) es)))
removed_by_test true name e es before is later = refl
removed_by_test false name e es before is later = ap (option_map (member (string_bytes e.0) (view e.1))) (later is)

pub removed_there : (name : List ℕ) (es : List Entry) (before : Value) → lookup (at name) es ≡ Some before → removed_member name (members_view es) ≡ Some (members_view (remove_entry (at name) es))
removed_there name [] before is = absurd (none-some before is)
removed_there name (e ∷ es) before is =
    let test = is_eq-slice_cmp name (string_bytes e.0) in
    removed_by_test (bytes_eq name (string_bytes e.0)) name e es before (ap (λ b. cond b (Some e.1) (lookup (at name) es)) (sym test) ∙ is) (removed_there name es before)
    ∙ ap (λ b. Some (members_view (cond b es (e ∷ remove_entry (at name) es)))) (sym test)

gone_by_test : (b : Bool) (name : List ℕ) (e : Entry) (es : List Entry) → cond b (Some e.1) (lookup (at name) es) ≡ None → (lookup (at name) es ≡ None → removed_member name (members_view es) ≡ None)
    → cond b (Some (members_view es)) (option_map (member (string_bytes e.0) (view e.1)) (removed_member name (members_view es))) ≡ None
gone_by_test true name e es is later = absurd (none-some e.1 (sym is))
gone_by_test false name e es is later = ap (option_map (member (string_bytes e.0) (view e.1))) (later is)

pub removed_nowhere : (name : List ℕ) (es : List Entry) → lookup (at name) es ≡ None → removed_member name (members_view es) ≡ None
removed_nowhere name [] is = refl
removed_nowhere name (e ∷ es) is =
    gone_by_test (bytes_eq name (string_bytes e.0)) name e es (ap (λ b. cond b (Some e.1) (lookup (at name) es)) (sym (is_eq-slice_cmp name (string_bytes e.0))) ∙ is) (removed_nowhere name es)

-- ---- items

item_here : (f : Data → Option Data) (v : Value) (vs : List Value) (after : Option Value) → f (view v) ≡ option_map view after
    → option_map (λ e. item e (items_view vs)) (f (view v)) ≡ option_map (λ w. items_view (w ∷ vs)) after
item_here f v vs None made = rw made refl
item_here f v vs (Some w) made = rw made refl

item_behind : (v : Value) (vs : List Value) (i : ℕ) (after : Option Value)
    → option_map (item (view v)) (option_map (λ w. items_view (slice_set vs i w)) after) ≡ option_map (λ w. items_view (v ∷ slice_set vs i w)) after
item_behind v vs i None = refl
item_behind v vs i (Some w) = refl

-- the item at an index is changed, or the change refuses it
pub item_changed : (f : Data → Option Data) (vs : List Value) (i : ℕ) (d : Value) (after : Option Value) → i < length vs → f (view (get_or vs i d)) ≡ option_map view after
    → changed_item f i (items_view vs) ≡ option_map (λ w. items_view (slice_set vs i w)) after
item_changed f [] i d after h made = absurd (omega arith)
item_changed f (v ∷ vs) zero d after h made = item_here f v vs after made
item_changed f (v ∷ vs) (suc i) d after h made = ap (option_map (item (view v))) (item_changed f vs i d after (omega arith) made) ∙ item_behind v vs i after

pub item_missing : (f : Data → Option Data) (vs : List Value) (i : ℕ) → length vs ≤ i → changed_item f i (items_view vs) ≡ None
item_missing f [] i h = refl
item_missing f (v ∷ vs) zero h = absurd (omega arith)
item_missing f (v ∷ vs) (suc i) h = ap (option_map (item (view v))) (item_missing f vs i (omega arith))

pub item_inserted : (vs : List Value) (i : ℕ) (v : Value) → i ≤ length vs → inserted_item i (view v) (items_view vs) ≡ Some (items_view (insert vs i v))
item_inserted [] zero v h = refl
item_inserted [] (suc i) v h = absurd (omega arith)
item_inserted (x ∷ vs) zero v h = refl
item_inserted (x ∷ vs) (suc i) v h = ap (option_map (item (view x))) (item_inserted vs i v (omega arith))

pub past_the_end : (vs : List Value) (i : ℕ) (v : Value) → length vs < i → inserted_item i (view v) (items_view vs) ≡ None
past_the_end [] zero v h = absurd (omega arith)
past_the_end [] (suc i) v h = refl
past_the_end (x ∷ vs) zero v h = absurd (omega arith)
past_the_end (x ∷ vs) (suc i) v h = ap (option_map (item (view x))) (past_the_end vs i v (omega arith))

pub item_removed : (vs : List Value) (i : ℕ) → i < length vs → removed_item i (items_view vs) ≡ Some (items_view (remove vs i))
item_removed [] i h = absurd (omega arith)
item_removed (x ∷ vs) zero h = refl
item_removed (x ∷ vs) (suc i) h = ap (option_map (item (view x))) (item_removed vs i (omega arith))

pub none_removed : (vs : List Value) (i : ℕ) → length vs ≤ i → removed_item i (items_view vs) ≡ None
none_removed [] i h = refl
none_removed (x ∷ vs) zero h = absurd (omega arith)
none_removed (x ∷ vs) (suc i) h = ap (option_map (item (view x))) (none_removed vs i (omega arith))

-- two names or more
pub further : (change : Change) (names : List (List ℕ)) (o : List ℕ) (d : Data) → 1 < length names → changed_part (changed_by change (drop 1 names)) (get_or names 0 o) d ≡ changed_by change names d
further change [] o d h = absurd (omega arith)
further change (name ∷ []) o d h = absurd (omega arith)
further change (name ∷ next ∷ names) o d h = refl

pub set_twice : (vs : List Value) (i : ℕ) (v w : Value) → slice_set (slice_set vs i v) i w ≡ slice_set vs i w
set_twice [] i v w = refl
set_twice (x ∷ vs) zero v w = refl
set_twice (x ∷ vs) (suc i) v w = ap (λ ws. x ∷ ws) (set_twice vs i v w)

all_taken : {A : Type 0} (xs : List A) (n : ℕ) → length xs ≤ n → take n xs ≡ xs
all_taken [] zero h = refl
all_taken [] (suc n) h = refl
all_taken (x ∷ xs) zero h = absurd (omega arith)
all_taken (x ∷ xs) (suc n) h = ap (λ ys. x ∷ ys) (all_taken xs n (omega arith))

-- the names behind the first, as a pattern takes them
pub all_behind : (names : List (List ℕ)) → take (length names - 1) (drop 1 names) ≡ drop 1 names
all_behind names = all_taken (drop 1 names) (length names - 1) (omega (arith, length-drop 1 names))
