-- The JSON document of the object of a life, and what the patches of finalizers make of it.
use Rattle.std.proofs.Common.{◌≡◌, ℕ, suc, zero, ◌^◌, ◌<◌, ◌||◌, ◌==◌, List, [], ◌∷◌, ◌++◌, length, get_or, map, Option, Some, None, Ok, true, false, not, option_map, codes, decimal, refl, sym, ap, ◌∙◌, append-nil, arith}
use Rattle.std.specs.Prelude.{slice_get, remove, option_and_then}
use Rattle.std.specs.Int.{IsInRange}
use Rattle.std.specs.Str.{all_ascii_digits}
use Rattle.std.specs.Str.Parse.{digits_value}
use Rattle.std.proofs.lemmas.Str.Parse.{IsNumeralModel, numerals_by_value, tells_all_ascii_digits}
use Rattle.std.proofs.lemmas.Bool.Decides.{nat_tests}
use Rattle.std.proofs.lemmas.Fmt.{decimal_is_IsNumeral, digits_decimal, decimal_nonempty, decimal_digit, first_decimal}
use Rattle.fast_float.specs.Text.{Parts, digits_of, IsWellFormed, scan}
use Rattle.fast_float.proofs.Writing.{scan-text_of}
use Rattle.serde_json.specs.Data.{Data, string, object, Members, no_members, member}
use Rattle.serde_json.specs.Find.{get_item, index_of, unescape}
use Rattle.serde_json.specs.Events.{items_len}
use Rattle.std.proofs.lemmas.Slice.Eq.{bytes_eq-Decides}
use Rattle.serde_json.specs.View.{items_of}
use Rattle.kube_meta.specs.Reading.{unless_empty, object_data_at, object_at, types_at, has_types, maybe_field, full_field, meta_at, list_at, text_at, items_at, texts_at, content_at, others}
use Rattle.kube_meta.specs.Writing.{object_data, meta_data, meta_fields, content_members}
use Rattle.kube_api.specs.Patches.{Puts, Takes, found_at, cut, onto_first, parts_of, changed_at, removed_item, changed_by, stays, has_same, is_object, is_read, found_by, inserted_item}
use Rattle.kube_final.specs.Finalizers.{names_data, list_path, item_path, end_path}
use Rattle.kube_final.specs.Playing.{plain_object}

abbrev pub named_members : List ℕ → List ℕ → Members
named_members uid version = member (codes "name") (string (codes "object")) (member (codes "resourceVersion") (string version) (member (codes "uid") (string uid) no_members))

abbrev pub listed : Option Data → Members → Members
listed None ms = ms
listed (Some d) ms = member (codes "finalizers") d ms

abbrev pub stamped : Option (List ℕ) → Members → Members
stamped None ms = ms
stamped (Some t) ms = member (codes "deletionTimestamp") (string t) ms

-- its document, with what stands for the finalizers
abbrev pub document : List ℕ → List ℕ → Option (List ℕ) → Option Data → Data
document uid version deleted list = object (member (codes "metadata") (object (stamped deleted (listed list (named_members uid version)))) no_members)

abbrev pub list_of : List (List ℕ) → Option Data
list_of names = option_map names_data (unless_empty (Some names))

pub written : (uid version : List ℕ) (content : Data) (deleted : Option (List ℕ)) (names : List (List ℕ)) → content_members content ≡ no_members
    → object_data (plain_object uid version content deleted names) ≡ document uid version deleted (list_of names)
unfolding object_data meta_data meta_fields others
written uid version content None [] e = rw e refl
written uid version content None (n ∷ ns) e = rw e refl
written uid version content (Some t) [] e = rw e refl
written uid version content (Some t) (n ∷ ns) e = rw e refl

-- ---- what is read of a document

names-read : (i : ℕ) (names : List (List ℕ)) → items_at text_at i (items_of (map string names)) ≡ Ok names
names-read i [] = refl
names-read i (n ∷ ns) = rw (names-read (suc i) ns) refl

list-read : (names : List (List ℕ)) → list_at text_at (names_data names) ≡ Ok names
unfolding list_at
list-read names = names-read 0 names

pub read-list : (uid version : List ℕ) (deleted : Option (List ℕ)) (names : List (List ℕ))
    → object_data_at (document uid version deleted (Some (names_data names))) ≡ Ok (plain_object uid version (object no_members) deleted names)
unfolding object_data_at object_at types_at has_types maybe_field full_field meta_at texts_at content_at others
read-list uid version None names = rw (list-read names) refl
read-list uid version (Some t) names = rw (list-read names) refl

-- ---- places of the finalizers

own : IsNumeralModel (λ ds. all_ascii_digits ds ≡ true) (digits_value 10)
own = numerals_by_value _ tells_all_ascii_digits

no_slash : (c : ℕ) → IsInRange 48 57 c → (c == 47) ≡ false
no_slash c range = grind (arith, nat_tests)

no_tilde : (c : ℕ) → IsInRange 48 57 c → (c == 126) ≡ false
no_tilde c range = grind (arith, nat_tests)

digits-cut : (ds : List ℕ) → all_ascii_digits ds ≡ true → cut ds ≡ ds ∷ []
digits-cut [] all = refl
digits-cut (c ∷ ds) all =
    let parts = tells_all_ascii_digits.parts c ds all in
    rw (no_slash c parts.0) (ap (onto_first c) (digits-cut ds parts.1))

digits-plain : (ds : List ℕ) → all_ascii_digits ds ≡ true → unescape ds ≡ ds
unfolding unescape
digits-plain [] all = refl
digits-plain (c ∷ []) all = refl
digits-plain (c ∷ d ∷ ds) all =
    let parts = tells_all_ascii_digits.parts c (d ∷ ds) all in
    rw (no_tilde c parts.0) (ap (λ l. c ∷ l) (digits-plain (d ∷ ds) parts.1))

front-parts : (ds : List ℕ) → parts_of (codes "/metadata/finalizers/" ++ ds) ≡ Some (codes "metadata" ∷ codes "finalizers" ∷ map unescape (cut ds))
unfolding unescape
front-parts ds = refl

pub item-parts : (i : ℕ) → i < 2 ^ 64 → parts_of (item_path i) ≡ Some (codes "metadata" ∷ codes "finalizers" ∷ decimal i ∷ [])
item-parts i small =
    let digits : all_ascii_digits (decimal i) ≡ true = digits_decimal own i small in
    front-parts (decimal i) ∙ ap (λ ps. Some (codes "metadata" ∷ codes "finalizers" ∷ map unescape ps)) (digits-cut (decimal i) digits)
    ∙ ap (λ p. Some (codes "metadata" ∷ codes "finalizers" ∷ p ∷ [])) (digits-plain (decimal i) digits)

unpadded : (i : ℕ) → i < 2 ^ 64 → (length (decimal i) == 1 || not (get_or (decimal i) 0 0 == 48)) ≡ true
unpadded zero small = rw (decimal_digit 0 (omega arith)) refl
unpadded (suc i) small = let first : 48 < get_or (decimal (suc i)) 0 0 = first_decimal (suc i) (omega arith) small in grind (arith, nat_tests)

abbrev whole_number : List ℕ → Parts
whole_number ds = record { whole = ds; point = false; fraction = []; exponent_negative = false; exponent = []; len = length (ds ++ []) }

decimal-scan : (i : ℕ) → i < 2 ^ 64 → scan (decimal i) ≡ whole_number (decimal i)
decimal-scan i small =
    let e = decimal_is_IsNumeral i small in
    let formed : IsWellFormed (whole_number (decimal i)) = record { whole_digits = e.0.1; fraction_digits = tt; exponent_digits = tt; no_point = λ _. refl; no_exponent = λ _. refl; len_is = refl } in
    ap scan (sym (append-nil (decimal i))) ∙ scan-text_of (whole_number (decimal i)) formed

pub decimal-index : (i : ℕ) → i < 2 ^ 64 → index_of (decimal i) ≡ Some i
unfolding index_of
decimal-index i small =
    let e = decimal_is_IsNumeral i small in
    let some : 0 < length (decimal i) = decimal_nonempty i small in
    let value : digits_of (whole_number (decimal i)) ≡ i = rw append-nil e.1 in
    rw (decimal-scan i small, value, unpadded i small, append-nil) (grind (arith, nat_tests))

-- ---- what stands there

pub list-found : (uid version : List ℕ) (deleted : Option (List ℕ)) (list : Option Data) → found_at list_path (document uid version deleted list) ≡ list
unfolding unescape
list-found uid version None None = refl
list-found uid version None (Some d) = refl
list-found uid version (Some t) None = refl
list-found uid version (Some t) (Some d) = refl

pub name-there : (names : List (List ℕ)) (i : ℕ) → get_item i (items_of (map string names)) ≡ option_map string (slice_get names i)
name-there [] i = refl
name-there (n ∷ ns) zero = refl
name-there (n ∷ ns) (suc i) = name-there ns i

pub found-rest : (o : Option Data) → option_and_then (found_by []) o ≡ o
found-rest None = refl
found-rest (Some d) = refl

item-by-parts : (uid version part : List ℕ) (deleted : Option (List ℕ)) (names : List (List ℕ)) (i : ℕ) → index_of part ≡ Some i
    → found_by (codes "metadata" ∷ codes "finalizers" ∷ part ∷ []) (document uid version deleted (list_of names)) ≡ option_map string (slice_get names i)
item-by-parts uid version part None [] i e = refl
item-by-parts uid version part None (n ∷ ns) i e = rw e (found-rest _ ∙ name-there (n ∷ ns) i)
item-by-parts uid version part (Some t) [] i e = refl
item-by-parts uid version part (Some t) (n ∷ ns) i e = rw e (found-rest _ ∙ name-there (n ∷ ns) i)

pub item-found : (uid version : List ℕ) (deleted : Option (List ℕ)) (names : List (List ℕ)) (i : ℕ) → i < 2 ^ 64
    → found_at (item_path i) (document uid version deleted (list_of names)) ≡ option_map string (slice_get names i)
item-found uid version deleted names i small =
    ap (option_and_then (λ ps. found_by ps (document uid version deleted (list_of names)))) (item-parts i small)
    ∙ item-by-parts uid version (decimal i) deleted names i (decimal-index i small)

-- ---- what changes make of it

pub list-put : (uid version : List ℕ) (deleted : Option (List ℕ)) (list : Option Data) (d : Data)
    → changed_at (Puts d) list_path (document uid version deleted list) ≡ Some (document uid version deleted (Some d))
unfolding unescape
list-put uid version None None d = refl
list-put uid version None (Some e) d = refl
list-put uid version (Some t) None d = refl
list-put uid version (Some t) (Some e) d = refl

pub pushed : (names : List (List ℕ)) (d : Data) → inserted_item (items_len (items_of (map string names))) d (items_of (map string names)) ≡ Some (items_of (map string names ++ d ∷ []))
pushed [] d = refl
pushed (n ∷ ns) d = rw (pushed ns d) refl

pub map-push : (names : List (List ℕ)) (n : List ℕ) → map string (names ++ n ∷ []) ≡ map string names ++ string n ∷ []
map-push [] n = refl
map-push (m ∷ ms) n = ap (λ l. string m ∷ l) (map-push ms n)

pub end-put : (uid version : List ℕ) (deleted : Option (List ℕ)) (names : List (List ℕ)) (n : List ℕ)
    → changed_at (Puts (string n)) end_path (document uid version deleted (Some (names_data names))) ≡ Some (document uid version deleted (Some (names_data (names ++ n ∷ []))))
unfolding unescape
end-put uid version None names n = rw (pushed names (string n), map-push names n) refl
end-put uid version (Some t) names n = rw (pushed names (string n), map-push names n) refl

pub taken : (names : List (List ℕ)) (i : ℕ) (n : List ℕ) → slice_get names i ≡ Some n → removed_item i (items_of (map string names)) ≡ Some (items_of (map string (remove names i)))
taken [] i n e = cc
taken (m ∷ ms) zero n e = refl
taken (m ∷ ms) (suc i) n e = rw (taken ms i n e) refl

take-by-parts : (uid version part : List ℕ) (deleted : Option (List ℕ)) (names : List (List ℕ)) (i : ℕ) (n : List ℕ) → index_of part ≡ Some i → slice_get names i ≡ Some n
    → changed_by Takes (codes "metadata" ∷ codes "finalizers" ∷ part ∷ []) (document uid version deleted (Some (names_data names))) ≡ Some (document uid version deleted (Some (names_data (remove names i))))
take-by-parts uid version part None names i n e there = rw (e, taken names i n there) refl
take-by-parts uid version part (Some t) names i n e there = rw (e, taken names i n there) refl

pub item-taken : (uid version : List ℕ) (deleted : Option (List ℕ)) (names : List (List ℕ)) (i : ℕ) (n : List ℕ) → i < 2 ^ 64 → slice_get names i ≡ Some n
    → changed_at Takes (item_path i) (document uid version deleted (Some (names_data names))) ≡ Some (document uid version deleted (Some (names_data (remove names i))))
item-taken uid version deleted names i n small there =
    ap (option_and_then (λ ps. changed_by Takes ps (document uid version deleted (Some (names_data names))))) (item-parts i small)
    ∙ take-by-parts uid version (decimal i) deleted names i n (decimal-index i small) there

-- ---- it stays that object

same-name : (uid version : List ℕ) (deleted : Option (List ℕ)) (list after : Option Data) → has_same (codes "name") (document uid version deleted list) (document uid version deleted after) ≡ true
same-name uid version None None None = refl
same-name uid version None None (Some a) = refl
same-name uid version None (Some d) None = refl
same-name uid version None (Some d) (Some a) = refl
same-name uid version (Some t) None None = refl
same-name uid version (Some t) None (Some a) = refl
same-name uid version (Some t) (Some d) None = refl
same-name uid version (Some t) (Some d) (Some a) = refl

same-space : (uid version : List ℕ) (deleted : Option (List ℕ)) (list after : Option Data) → has_same (codes "namespace") (document uid version deleted list) (document uid version deleted after) ≡ true
same-space uid version None None None = refl
same-space uid version None None (Some a) = refl
same-space uid version None (Some d) None = refl
same-space uid version None (Some d) (Some a) = refl
same-space uid version (Some t) None None = refl
same-space uid version (Some t) None (Some a) = refl
same-space uid version (Some t) (Some d) None = refl
same-space uid version (Some t) (Some d) (Some a) = refl

same-uid : (uid version : List ℕ) (deleted : Option (List ℕ)) (list after : Option Data) → has_same (codes "uid") (document uid version deleted list) (document uid version deleted after) ≡ true
same-uid uid version None None None = (bytes_eq-Decides uid uid).1 refl
same-uid uid version None None (Some a) = (bytes_eq-Decides uid uid).1 refl
same-uid uid version None (Some d) None = (bytes_eq-Decides uid uid).1 refl
same-uid uid version None (Some d) (Some a) = (bytes_eq-Decides uid uid).1 refl
same-uid uid version (Some t) None None = (bytes_eq-Decides uid uid).1 refl
same-uid uid version (Some t) None (Some a) = (bytes_eq-Decides uid uid).1 refl
same-uid uid version (Some t) (Some d) None = (bytes_eq-Decides uid uid).1 refl
same-uid uid version (Some t) (Some d) (Some a) = (bytes_eq-Decides uid uid).1 refl

pub list-stays : (uid version : List ℕ) (deleted : Option (List ℕ)) (list : Option Data) (names : List (List ℕ))
    → stays (document uid version deleted list) (document uid version deleted (Some (names_data names))) ≡ true
list-stays uid version deleted list names =
    let after = Some (names_data names) in
    let read : is_object (document uid version deleted after) ≡ true = ap is_read (read-list uid version deleted names) in
    rw (read, same-name uid version deleted list after, same-space uid version deleted list after, same-uid uid version deleted list after) refl
