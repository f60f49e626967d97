-- The texts of what was taken.
use Rattle.std.proofs.Common.{◌≡◌, ℕ, ◌+◌, ◌<◌, Bool, true, List, ◌++◌, length, get_or, drop, ◌∙◌, ap, Option, Some, None, map, option_map, is_some, sym, true≢false}
use Rattle.std.specs.List.{cons_option, filter_map}
use Rattle.serde_json.specs.View.{items_of}
use Rattle.serde_json.specs.Written.{compact_text, comma_if, items_text}
use Rattle.kube_meta.specs.Reading.{ObjectData}
use Rattle.kube_model.specs.History.{Taken}
use Rattle.kube_text.specs.Shown.{or_null}
use Rattle.kube_text.specs.TraceText.{taken_data}
use Rattle.kube_text.proofs.Lines.{item_due, next_of}

pub take_due : (o : Option (Taken ObjectData)) → is_some o ≡ true → (later : Bool) (rest : List (Taken ObjectData)) (end : List ℕ)
    → items_text later (items_of (map taken_data (cons_option o rest))) ++ end ≡ comma_if later ++ (compact_text (or_null (option_map taken_data o)) ++ (items_text true (items_of (map taken_data rest)) ++ end))
take_due None h later rest end = absurd (true≢false (sym h))
take_due (Some t) h later rest end = item_due later (taken_data t) (items_of (map taken_data rest)) end

pub next_take : {Held : Type 0} (f : Held → Option (Taken ObjectData)) (later : Bool) (xs : List Held) (i : ℕ) (x : Held) (left : List ℕ) → i < length xs → x ≡ get_or xs i x → is_some (f x) ≡ true
    → items_text later (items_of (map taken_data (filter_map f (drop i xs)))) ++ left
    ≡ comma_if later ++ (compact_text (or_null (option_map taken_data (f x))) ++ (items_text true (items_of (map taken_data (filter_map f (drop (i + 1) xs)))) ++ left))
next_take f later xs i x left l is some =
    ap (λ ys. items_text later (items_of (map taken_data (filter_map f ys))) ++ left) (next_of xs i x l is)
    ∙ take_due (f x) some later (filter_map f (drop (i + 1) xs)) left
