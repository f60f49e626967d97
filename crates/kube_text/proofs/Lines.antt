-- Texts that are written in pieces.
use Rattle.std.proofs.Common.{◌≡◌, ℕ, ◌+◌, ◌<◌, Bool, true, false, List, length, get_or, drop, map, [], ◌∷◌, ◌++◌, Option, refl, sym, ap, ◌∙◌, append_assoc, append-nil, subst}
use Rattle.std.proofs.lemmas.List.{drop_more}
use Rattle.std.specs.Io.KnownBytes.{Appends}
use Rattle.json.specs.Token.{Token, key}
use Rattle.json.specs.Print.{print, print_from, quoted}
use Rattle.serde_json.specs.Data.{Data, array, Items, item, Members, member}
use Rattle.serde_json.specs.View.{items_of}
use Rattle.serde_json.specs.Written.{compact_text, comma_if, items_text, members_text}
use Rattle.kube_text.specs.Part.{AppendsPart}
use Rattle.kube_text.specs.Pieces.{Holds}
use Rattle.kube_text.specs.Shown.{tokens_of}
use Rattle.kube_text.proofs.Sinks.{both_written, none_written}
use Rattle.kube_text.proofs.Text.{printed}

-- ---- what is held

module _ (start : Option (List ℕ)) where
  -- the first of what is due is held
  pub more : (now : Option (List ℕ)) (held new added left whole : List ℕ) → new ≡ held ++ added → Holds start now held (added ++ left) whole → Holds start now new left whole
  more now held new added left whole e h =
      record { gone = h.gone; went = h.went; split = h.split ∙ ap (λ t. h.gone ++ t) (sym (append_assoc held added left) ∙ ap (λ t. t ++ left) (sym e)) }

  -- what went is the first of the text
  pub front : (now : Option (List ℕ)) (held left whole : List ℕ) → Holds start now held left whole → AppendsPart start now whole
  front now held left whole h = record { front = h.gone; rest = held ++ left; split = h.split; appended = h.went }

  -- what is held is written
  pub gone_too : (now new : Option (List ℕ)) (held left whole : List ℕ) → Appends now new held → Holds start now held left whole → Holds start new [] left whole
  gone_too now new held left whole a h =
      record { gone = h.gone ++ held; went = both_written start now new h.gone held h.went a; split = h.split ∙ sym (append_assoc h.gone held left) }

  -- or a part of it
  pub part_gone : (now new : Option (List ℕ)) (held left whole : List ℕ) → AppendsPart now new held → Holds start now held left whole → AppendsPart start new whole
  part_gone now new held left whole p h =
      record {
        front = h.gone ++ p.front;
        rest = p.rest ++ left;
        split = h.split ∙ ap (λ t. h.gone ++ (t ++ left)) p.split ∙ ap (λ t. h.gone ++ t) (append_assoc p.front p.rest left) ∙ sym (append_assoc h.gone p.front (p.rest ++ left));
        appended = both_written start now new h.gone p.front h.went p.appended;
      }

  -- all of it was
  pub whole_gone : (now : Option (List ℕ)) (whole : List ℕ) → Holds start now [] [] whole → Appends start now whole
  whole_gone now whole h = subst (Appends start now) (sym (h.split ∙ append-nil h.gone)) h.went

-- ---- what a writer holds

-- after data was shown
pub value_held : (text line before : List ℕ) (none tokens : List Token) (d : Data) → text ≡ before ++ print tokens → before ≡ line → none ≡ [] → tokens ≡ none ++ tokens_of d → text ≡ line ++ compact_text d
value_held text line before none tokens d e b n f = rw (e, b, f, n, printed d) refl

-- after a name was
pub name_held : (text line held before : List ℕ) (later : Bool) (none tokens : List Token) (name : List ℕ) → text ≡ before ++ print tokens → before ≡ held → none ≡ [] → tokens ≡ none ++ key name ∷ []
    → held ≡ line ++ comma_if later → text ≡ line ++ (comma_if later ++ (quoted name ++ 58 ∷ []))
unfolding print_from
name_held text line held before later none tokens name e b n f g =
    rw (e, b, f, n, g) (ap (λ t. (line ++ comma_if later) ++ t) (append-nil (quoted name ++ 58 ∷ [])) ∙ append_assoc line (comma_if later) (quoted name ++ 58 ∷ []))

-- ---- texts of items and members, with an end behind them

pub item_due : (later : Bool) (d : Data) (ds : Items) (end : List ℕ) → items_text later (item d ds) ++ end ≡ comma_if later ++ (compact_text d ++ (items_text true ds ++ end))
item_due later d ds end =
    append_assoc (comma_if later) (compact_text d ++ items_text true ds) end
    ∙ ap (λ t. comma_if later ++ t) (append_assoc (compact_text d) (items_text true ds) end)

pub member_due : (later : Bool) (k : List ℕ) (d : Data) (ms : Members) (end : List ℕ)
    → members_text later (member k d ms) ++ end ≡ (comma_if later ++ (quoted k ++ 58 ∷ [])) ++ (compact_text d ++ (members_text true ms ++ end))
member_due later k d ms end =
    append_assoc (comma_if later) (quoted k ++ 58 ∷ (compact_text d ++ members_text true ms)) end
    ∙ ap (λ t. comma_if later ++ t) (append_assoc (quoted k) (58 ∷ (compact_text d ++ members_text true ms)) end ∙ ap (λ t. quoted k ++ 58 ∷ t) (append_assoc (compact_text d) (members_text true ms) end)
    ∙ sym (append_assoc (quoted k) (58 ∷ []) (compact_text d ++ (members_text true ms ++ end))))
    ∙ sym (append_assoc (comma_if later) (quoted k ++ 58 ∷ []) (compact_text d ++ (members_text true ms ++ end)))

pub list_due : (later : Bool) (k : List ℕ) (ds : Items) (ms : Members) (end : List ℕ)
    → members_text later (member k (array ds) ms) ++ end ≡ (comma_if later ++ (quoted k ++ 58 ∷ 91 ∷ [])) ++ (items_text false ds ++ (members_text true ms ++ end))
list_due later k ds ms end =
    let tail = items_text false ds ++ (members_text true ms ++ end) in
    member_due later k (array ds) ms end
    ∙ append_assoc (comma_if later) (quoted k ++ 58 ∷ []) (91 ∷ tail)
    ∙ ap (λ t. comma_if later ++ t) (append_assoc (quoted k) (58 ∷ []) (91 ∷ tail) ∙ sym (append_assoc (quoted k) (58 ∷ 91 ∷ []) tail))
    ∙ sym (append_assoc (comma_if later) (quoted k ++ 58 ∷ 91 ∷ []) tail)

module _ (start now : Option (List ℕ)) where
  -- a member is held
  pub member_more : (line named valued : List ℕ) (later : Bool) (k : List ℕ) (d : Data) (ms : Members) (end whole : List ℕ) → named ≡ line ++ (comma_if later ++ (quoted k ++ 58 ∷ [])) → valued ≡ named ++ compact_text d
      → Holds start now line (members_text later (member k d ms) ++ end) whole → Holds start now valued (members_text true ms ++ end) whole
  member_more line named valued later k d ms end whole e f h =
      more start now named valued (compact_text d) (members_text true ms ++ end) whole f
      (more start now line named (comma_if later ++ (quoted k ++ 58 ∷ [])) (compact_text d ++ (members_text true ms ++ end)) whole e
      (subst (λ t. Holds start now line t whole) (member_due later k d ms end) h))

  -- an item is
  pub item_more : (line parted valued : List ℕ) (later : Bool) (d : Data) (left whole : List ℕ) → parted ≡ line ++ comma_if later → valued ≡ parted ++ compact_text d
      → Holds start now line (comma_if later ++ (compact_text d ++ left)) whole → Holds start now valued left whole
  item_more line parted valued later d left whole e f h =
      more start now parted valued (compact_text d) left whole f (more start now line parted (comma_if later) (compact_text d ++ left) whole e h)

  -- a list's name and opening bracket are
  pub list_more : (line begun : List ℕ) (later : Bool) (k : List ℕ) (ds : Items) (ms : Members) (end whole : List ℕ) → begun ≡ line ++ (comma_if later ++ (quoted k ++ 58 ∷ 91 ∷ []))
      → Holds start now line (members_text later (member k (array ds) ms) ++ end) whole → Holds start now begun (items_text false ds ++ (members_text true ms ++ end)) whole
  list_more line begun later k ds ms end whole e h =
      more start now line begun (comma_if later ++ (quoted k ++ 58 ∷ 91 ∷ [])) (items_text false ds ++ (members_text true ms ++ end)) whole e
      (subst (λ t. Holds start now line t whole) (list_due later k ds ms end) h)

-- ---- items that are left of a list

pub next_of : {A : Type 0} (xs : List A) (i : ℕ) (x : A) → i < length xs → x ≡ get_or xs i x → drop i xs ≡ x ∷ drop (i + 1) xs
next_of xs i x l is = drop_more xs i x l ∙ ap (λ y. y ∷ drop (i + 1) xs) (sym is)

pub next_due : {A B : Type 0} (f : A → B) (g : B → Data) (later : Bool) (xs : List A) (i : ℕ) (x : A) (left : List ℕ) → i < length xs → x ≡ get_or xs i x
    → items_text later (items_of (map g (map f (drop i xs)))) ++ left ≡ comma_if later ++ (compact_text (g (f x)) ++ (items_text true (items_of (map g (map f (drop (i + 1) xs)))) ++ left))
next_due f g later xs i x left l is =
    ap (λ ys. items_text later (items_of (map g (map f ys))) ++ left) (next_of xs i x l is)
    ∙ item_due later (g (f x)) (items_of (map g (map f (drop (i + 1) xs)))) left

-- ---- a line's beginning

-- its brace is held
pub begun : (start : Option (List ℕ)) (line tail : List ℕ) → line ≡ 123 ∷ [] → Holds start start line tail (123 ∷ tail)
begun start line tail e = record { gone = []; went = none_written start; split = ap (λ l. l ++ tail) (sym e) }
