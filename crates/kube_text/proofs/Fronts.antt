-- Tokens of which the first were shown.
use Rattle.std.proofs.Common.{◌≡◌, ℕ, ◌<◌, List, [], ◌∷◌, ◌++◌, length, length-append, arith, append-nil, append_assoc, refl, sym, ap, ◌∙◌}
use Rattle.std.proofs.lemmas.List.{append_cancel_left}
use Rattle.json.specs.Token.{Token, begin_object, end_object, begin_array, key}
use Rattle.json.specs.Written.{WritesFront}
use Rattle.serde_json.specs.Data.{Data, array, object, Items, item, Members, no_members, member}
use Rattle.serde_json.specs.View.{items_of}
use Rattle.kube_text.specs.Shown.{IsMore, tokens_of, item_tokens, items_left, member_tokens}

-- none was
pub none_shown : (old new ts : List Token) → new ≡ old → WritesFront old new ts
none_shown old new ts e = ([], ts, refl, e ∙ sym (append-nil old))

-- the first of two lists wasn't shown whole
pub first_shown : (old new xs ys : List Token) → WritesFront old new xs → WritesFront old new (xs ++ ys)
first_shown old new xs ys h = (h.0, h.1 ++ ys, ap (λ t. t ++ ys) h.2 ∙ append_assoc h.0 h.1 ys, h.3)

-- it was, and then the first of the second
pub then_shown : (old mid new xs ys : List Token) → mid ≡ old ++ xs → WritesFront mid new ys → WritesFront old new (xs ++ ys)
then_shown old mid new xs ys e h =
    (xs ++ h.0, h.1, ap (λ t. xs ++ t) h.2 ∙ sym (append_assoc xs h.0 h.1), h.3 ∙ ap (λ l. l ++ h.0) e ∙ append_assoc old xs h.0)

-- a member's name was, and the first of its value
pub value_front : (old keyed new : List Token) (name : List ℕ) (d : Data) (rest : Members) → keyed ≡ old ++ key name ∷ [] → WritesFront keyed new (tokens_of d) → WritesFront old new (member_tokens (member name d rest))
unfolding tokens_of member_tokens
value_front old keyed new name d rest e h =
    then_shown old keyed new (key name ∷ []) (tokens_of d ++ member_tokens rest) e (first_shown keyed new (tokens_of d) (member_tokens rest) h)

-- ---- what is shown beside what is due

pub more_yet : (old mid new : List Token) → IsMore old mid → IsMore mid new → IsMore old new
more_yet old mid new h k = (h.0 ++ k.0, k.1 ∙ ap (λ l. l ++ k.0) h.1 ∙ append_assoc old h.0 k.0)

-- what was due is shown in part, or is due still
pub due_shown : (old mid new ts due : List Token) → IsMore old mid → old ++ ts ≡ mid ++ due → WritesFront mid new due → WritesFront old new ts
due_shown old mid new ts due m e h =
    let whole : ts ≡ m.0 ++ due = append_cancel_left old ts (m.0 ++ due) (e ∙ ap (λ l. l ++ due) m.1 ∙ append_assoc old m.0 due) in
    let f = then_shown old mid new m.0 due m.1 h in (f.0, f.1, whole ∙ f.2, f.3)

some_tokens : (ms : Members) → 0 < length (member_tokens ms)
unfolding member_tokens
some_tokens no_members = omega arith
some_tokens (member k d ms) = omega arith

-- where nothing but the closing brace is due, what was there is there
ended : (old mid ts : List Token) (t : Token) → 0 < length ts → old ++ ts ≡ mid ++ t ∷ [] → IsMore old mid
ended [] mid ts t l e = (mid, refl)
ended (a ∷ old) [] ts t l e = absurd (omega (arith, ap length e, length-append old ts))
ended (a ∷ old) (b ∷ mid) ts t l e =
    let h : old ++ ts ≡ mid ++ t ∷ [] = cc in
    let i : a ≡ b = cc in
    let m = ended old mid ts t l h in (m.0, λ j. sym i j ∷ m.1 j)

-- what was there before members were shown is there
pub members_more : (old mid : List Token) (members : Members → Members) → ((ms : Members) → old ++ member_tokens (members ms) ≡ mid ++ member_tokens ms) → IsMore old mid
unfolding member_tokens
members_more old mid members e = ended old mid (member_tokens (members no_members)) end_object (some_tokens (members no_members)) (e no_members)

-- members were, and the first of those behind them
pub later_shown : (old mid new : List Token) (members : Members → Members) (rest : Members) → ((ms : Members) → old ++ member_tokens (members ms) ≡ mid ++ member_tokens ms)
    → WritesFront mid new (member_tokens rest) → WritesFront old new (member_tokens (members rest))
later_shown old mid new members rest e h =
    due_shown old mid new (member_tokens (members rest)) (member_tokens rest) (members_more old mid members e) (e rest) h

-- ---- lists

-- of the items that are due one wasn't shown whole
pub item_front : (old mid new : List Token) (d : Data) (ds all : List Data) → IsMore old mid → mid ++ item_tokens (d ∷ ds) ≡ old ++ item_tokens all → WritesFront mid new (tokens_of d) → WritesFront old new (item_tokens all)
unfolding tokens_of item_tokens
item_front old mid new d ds all m e h = due_shown old mid new (item_tokens all) (item_tokens (d ∷ ds)) m (sym e) (first_shown mid new (tokens_of d) (item_tokens ds) h)

-- the same of a value's items
pub left_front : (old mid new : List Token) (d : Data) (ds all : Items) → IsMore old mid → mid ++ items_left (item d ds) ≡ old ++ items_left all → WritesFront mid new (tokens_of d) → WritesFront old new (items_left all)
unfolding tokens_of items_left
left_front old mid new d ds all m e h = due_shown old mid new (items_left all) (items_left (item d ds)) m (sym e) (first_shown mid new (tokens_of d) (items_left ds) h)

-- a list's opening bracket was shown, and the first of its items
pub list_front : (old opened new : List Token) (ds : List Data) → opened ≡ old ++ begin_array ∷ [] → WritesFront opened new (item_tokens ds) → WritesFront old new (tokens_of (array (items_of ds)))
unfolding tokens_of item_tokens
list_front old opened new ds e h = then_shown old opened new (begin_array ∷ []) (item_tokens ds) e h

-- ---- objects

-- an object's opening brace was shown, and the first of its members
pub object_front : (old opened new : List Token) (ms : Members) → opened ≡ old ++ begin_object ∷ [] → WritesFront opened new (member_tokens ms) → WritesFront old new (tokens_of (object ms))
unfolding tokens_of member_tokens
object_front old opened new ms e h = then_shown old opened new (begin_object ∷ []) (member_tokens ms) e h

-- all of its members were, and the closing brace wasn't
pub end_front : (old opened shown new : List Token) (members : Members → Members) → opened ≡ old ++ begin_object ∷ [] → ((ms : Members) → opened ++ member_tokens (members ms) ≡ shown ++ member_tokens ms) → new ≡ shown
    → WritesFront old new (tokens_of (object (members no_members)))
end_front old opened shown new members e f g =
    object_front old opened new (members no_members) e (later_shown opened shown new members no_members f (none_shown shown new (member_tokens no_members) g))
