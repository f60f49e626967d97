-- Where a watch stands in a log, and what it is then polled.
use Rattle.std.proofs.Common.{◌≡◌, ℕ, zero, suc, inl, inr, ◌+◌, ◌≤◌, ◌<◌, true, false, List, [], ◌∷◌, map, drop, length, get_or, Option, Some, None, refl, sym, ◌∙◌, arith, add-one, drop-cons}
use Rattle.std.specs.Prelude.{nat_lt, is_some, if◌then◌else◌}
use Rattle.std.proofs.lemmas.Bool.{cases_Bool, ltb-true, ltb-false}
use Rattle.std.proofs.lemmas.List.{drop-map, drop_all, length-map}
use Rattle.kube_meta.specs.declared.dynamic.DynamicObject.{DynamicObject}
use Rattle.kube_model.specs.Raw.{RawAnswer, Waits, Ends}
use Rattle.kube_server.specs.declared.entry.Entry.{Entry}
use Rattle.kube_server.specs.History.{Change, object_of}
use Rattle.kube_server.specs.Numbers.{NameSought, has_name}
use Rattle.kube_server.specs.Servers.{meta_of}
use Rattle.kube_server.specs.Stored.{change_of}
use Rattle.kube_server.specs.Connections.{event_of, first_named, poll_pending}
use Rattle.kube_server.specs.Indices.{HeadIsNamed, IsFirstNamed, IsIndexAfter}

-- what lies from an entry on: it, and what lies behind it
pub drop_at : (log : List Entry) (index : ℕ) (entry : Entry) → index < length log → entry ≡ get_or log index entry → drop index (map change_of log) ≡ change_of entry ∷ drop (index + 1) (map change_of log)
drop_at log index entry within is =
    rw (drop-map change_of index log, drop-cons log index entry, ← is, add-one, drop-map change_of (suc index) log) refl

pub drop_end : (log : List Entry) (index : ℕ) → length log ≤ index → drop index (map change_of log) ≡ []
drop_end log index over = let e : length (map change_of log) ≤ index = omega (arith, length-map log change_of) in drop_all index (map change_of log) e

-- an entry of another name is looked past
pub looks_past : (name : NameSought) (log : List Entry) (index : ℕ) (entry : Entry) → index < length log → entry ≡ get_or log index entry → has_name name (meta_of (object_of (change_of entry))) ≡ false → first_named meta_of name (index + 1) (drop (index + 1) (map change_of log)) ≡ first_named meta_of name index (drop index (map change_of log))
looks_past name log index entry within is other =
    let here = drop_at log index entry within is in
    rw (here, other, add-one) refl

pub stops_at : (name : NameSought) (log : List Entry) (index : ℕ) (entry : Entry) → index < length log → entry ≡ get_or log index entry → has_name name (meta_of (object_of (change_of entry))) ≡ true → HeadIsNamed name (drop index (map change_of log))
stops_at name log index entry within is here = rw (drop_at log index entry within is) here

pub stops_behind : (name : NameSought) (log : List Entry) (index : ℕ) → length log ≤ index → HeadIsNamed name (drop index (map change_of log))
stops_behind name log index over = rw (drop_end log index over) tt

-- what is polled at the index
pub polls_entry : (name : NameSought) (log : List Entry) (from index : ℕ) (entry : Entry) → IsFirstNamed name (map change_of log) from index → index < length log → entry ≡ get_or log index entry → first_named meta_of name from (drop from (map change_of log)) ≡ record { answer = event_of (change_of entry); left = record { name = name; pending = []; follows = Some (index + 1) } }
polls_entry name log from index entry first within is =
    let here = drop_at log index entry within is in
    let named : has_name name (meta_of (object_of (change_of entry))) ≡ true = rw here at first.named in
    sym first.same ∙ rw (here, named, add-one) refl

pub polls_nothing : (name : NameSought) (log : List Entry) (from index : ℕ) → IsFirstNamed name (map change_of log) from index → length log ≤ index → first_named meta_of name from (drop from (map change_of log)) ≡ record { answer = Waits; left = record { name = name; pending = []; follows = Some index } }
polls_nothing name log from index first over = sym first.same ∙ rw (drop_end log index over) refl

-- ---- what is polled where nothing is pending

-- there is an entry at each index of a log
entry_at : (log : List Entry) (index : ℕ) → index < length log → (entry : Entry) × (entry ≡ get_or log index entry)
entry_at [] index within = absurd (omega arith)
entry_at (entry ∷ log) zero within = (entry, refl)
entry_at (entry ∷ log) (suc index) within = entry_at log index (omega arith)

pub polled_entry : (name : NameSought) (pending : List (RawAnswer DynamicObject)) (follows : Option ℕ) (log : List Entry) (index : ℕ) (entry : Entry) → pending ≡ [] → is_some follows ≡ true → IsIndexAfter name (map change_of log) pending follows index → index < length log → entry ≡ get_or log index entry → poll_pending meta_of (map change_of log) name pending follows ≡ record { answer = event_of (change_of entry); left = record { name = name; pending = []; follows = Some (index + 1) } }
polled_entry name [] None log index entry e some first within is = absurd (cc)
polled_entry name [] (Some from) log index entry e some first within is = polls_entry name log from index entry first within is
polled_entry name (answer ∷ rest) follows log index entry e some first within is = absurd (cc)

pub polled_nothing : (name : NameSought) (pending : List (RawAnswer DynamicObject)) (follows : Option ℕ) (log : List Entry) (index : ℕ) → pending ≡ [] → is_some follows ≡ true → IsIndexAfter name (map change_of log) pending follows index → length log ≤ index → poll_pending meta_of (map change_of log) name pending follows ≡ record { answer = Waits; left = record { name = name; pending = []; follows = Some index } }
polled_nothing name [] None log index e some first over = absurd (cc)
polled_nothing name [] (Some from) log index e some first over = polls_nothing name log from index first over
polled_nothing name (answer ∷ rest) follows log index e some first over = absurd (cc)

pub polled_end : (name : NameSought) (pending : List (RawAnswer DynamicObject)) (follows : Option ℕ) (changes : List (Change DynamicObject)) → pending ≡ [] → is_some follows ≡ false → poll_pending meta_of changes name pending follows ≡ record { answer = Ends; left = record { name = name; pending = []; follows = None } }
polled_end name [] None changes e none = refl
polled_end name [] (Some from) changes e none = absurd (cc)
polled_end name (answer ∷ rest) follows changes e none = absurd (cc)

past_entry : (name : NameSought) (pending : List (RawAnswer DynamicObject)) (follows : Option ℕ) (log : List Entry) (index : ℕ) → pending ≡ [] → is_some follows ≡ true → IsIndexAfter name (map change_of log) pending follows index → index < length log → (poll_pending meta_of (map change_of log) name pending follows).left ≡ record { name = name; pending = []; follows = Some (index + 1) }
past_entry name pending follows log index e some first within =
    let there = entry_at log index within in
    rw (polled_entry name pending follows log index there.0 e some first within there.1) refl

-- behind the entry that is there, if there is one
pub polled_past : (name : NameSought) (pending : List (RawAnswer DynamicObject)) (follows : Option ℕ) (log : List Entry) (index : ℕ) → pending ≡ [] → is_some follows ≡ true → IsIndexAfter name (map change_of log) pending follows index → (poll_pending meta_of (map change_of log) name pending follows).left ≡ record { name = name; pending = []; follows = Some (if nat_lt index (length log) then index + 1 else index) }
polled_past name pending follows log index e some first =
    elim (cases_Bool (nat_lt index (length log))) [
      | inl within ↦ rw within (past_entry name pending follows log index e some first (ltb-true index (length log) within))
      | inr over ↦ rw (over, polled_nothing name pending follows log index e some first (ltb-false index (length log) over)) refl
    ]
