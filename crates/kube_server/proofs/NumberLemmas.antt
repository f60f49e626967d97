-- What texts of numbers and tokens are read as.
use Rattle.std.proofs.Common.{◌≡◌, ◌≢◌, ℕ, zero, suc, ◌+◌, ◌<◌, ◌^◌, inl, inr, Bool, true, false, not, List, [], ◌∷◌, ◌++◌, length, get_or, Option, Some, None, Result, Ok, Err, refl, ◌∙◌, arith}
use Rattle.std.specs.Prelude.{decimal, nat_lt, ◌==◌, ◌||◌, ◌&&◌}
use Rattle.std.specs.List.{list_any, before_first, after_first, position_or_len}
use Rattle.std.specs.Int.{IsInRange}
use Rattle.std.specs.Str.{all_ascii_digits}
use Rattle.std.specs.Result.{OkIff, result_ok}
use Rattle.std.specs.Str.Parse.{digits_value, ParsesUnsigned}
use Rattle.std.proofs.Math.Seq.{take-append_seam, drop-append-add}
use Rattle.std.proofs.lemmas.Bool.{cases_Bool, lt-ltb, ltb-true}
use Rattle.std.proofs.lemmas.List.Folds.{list_any-append, list_any_at}
use Rattle.std.proofs.lemmas.List.Sums.{passes_at_first}
use Rattle.std.proofs.lemmas.Str.Pattern.{IsSplitOnceResult, split_once_first}
use Rattle.std.specs.Option.{MatchOption}
use denote.Ref.{Bor}
use Rattle.std.proofs.lemmas.Bool.Decides.{nat_tests}
use Rattle.std.proofs.lemmas.Str.Parse.{IsNumeralModel, numerals_by_value, tells_all_ascii_digits, parse_plain}
use Rattle.std.proofs.lemmas.Fmt.{digits_decimal, digits_value-decimal, decimal_nonempty, decimal_digit, first_decimal}
use Rattle.kube_server.specs.Numbers.{is_decimal, number_at, Token, token_text, token_at, is_colon, both_numbers}

own : IsNumeralModel (λ ds. all_ascii_digits ds ≡ true) (digits_value 10)
own = numerals_by_value _ tells_all_ascii_digits

unpadded : (n : ℕ) → n < 2 ^ 64 → (length (decimal n) == 1 || not (get_or (decimal n) 0 0 == 48)) ≡ true
unpadded zero small = rw (decimal_digit 0 (omega arith)) refl
unpadded (suc n) small = let first : 48 < get_or (decimal (suc n)) 0 0 = first_decimal (suc n) (omega arith) small in grind (arith, nat_tests)

-- a number's decimal text names it
pub number_at-decimal : (n : ℕ) → n < 2 ^ 64 → number_at (decimal n) ≡ Some n
number_at-decimal n small =
    let digits : all_ascii_digits (decimal n) ≡ true = digits_decimal own n small in
    let value : digits_value 10 (decimal n) ≡ n = digits_value-decimal own n small in
    let some : 0 < length (decimal n) = decimal_nonempty n small in
    let plain = unpadded n small in
    rw (plain, digits, value) (grind (arith, nat_tests))

-- ---- tokens

no_colon : (c : ℕ) → IsInRange 48 57 c → is_colon c ≡ false
no_colon c range = grind (arith, nat_tests)

colon_behind : (digits rest : List ℕ) → all_ascii_digits digits ≡ true → position_or_len is_colon (digits ++ 58 ∷ rest) ≡ length digits
colon_behind [] rest all = refl
colon_behind (c ∷ digits) rest all =
    let parts = tells_all_ascii_digits.parts c digits all in
    rw (no_colon c parts.0, colon_behind digits rest parts.1) (omega arith)

has_colon : (digits rest : List ℕ) → list_any is_colon (digits ++ 58 ∷ rest) ≡ true
has_colon digits rest = list_any-append is_colon digits (58 ∷ rest) ∙ grind arith

before_colon : (digits rest : List ℕ) → all_ascii_digits digits ≡ true → before_first is_colon (digits ++ 58 ∷ rest) ≡ digits
before_colon digits rest all = rw (colon_behind digits rest all) (take-append_seam digits (58 ∷ rest))

after_colon : (digits rest : List ℕ) → all_ascii_digits digits ≡ true → after_first is_colon (digits ++ 58 ∷ rest) ≡ rest
after_colon digits rest all = rw (colon_behind digits rest all) (drop-append-add digits (58 ∷ rest) 1)

-- a token's text is read as the token
pub token_at-token_text : (t : Token) → t.revision < 2 ^ 64 → t.offset < 2 ^ 64 → token_at (token_text t) ≡ Some t
token_at-token_text t revision offset =
    let digits : all_ascii_digits (decimal t.revision) ≡ true = digits_decimal own t.revision revision in
    rw (has_colon (decimal t.revision) (decimal t.offset), before_colon (decimal t.revision) (decimal t.offset) digits, after_colon (decimal t.revision) (decimal t.offset) digits, number_at-decimal t.revision revision, number_at-decimal t.offset offset) refl

-- ---- what `parse` gives

and_true : (a b : Bool) → (a && b) ≡ true → (a ≡ true) × (b ≡ true)
and_true true b e = (refl, e)
and_true false b e = absurd (cc)

abbrev IsRead : List ℕ → Type 0
IsRead text = (all_ascii_digits text ≡ true) × (0 < length text) × (digits_value 10 text < 2 ^ 64)

-- without a sign or padding the number is that of the digits
number_read : {E : Type 0} (text : List ℕ) (r : Result ℕ E) → (length text == 1 || not (get_or text 0 0 == 48)) ≡ true → OkIff r (IsRead text) (digits_value 10 text) → result_ok r ≡ number_at text
number_read text (Ok x) plain (is, value) =
    let some : nat_lt 0 (length text) ≡ true = lt-ltb 0 (length text) is.1 in
    let small : nat_lt (digits_value 10 text) (2 ^ 64) ≡ true = lt-ltb (digits_value 10 text) (2 ^ 64) is.2 in
    let digits = is.0 in
    rw (plain, some, digits, small, value) refl
number_read text (Err e) plain not_read =
    elim (cases_Bool (is_decimal text && nat_lt (digits_value 10 text) (2 ^ 64))) [
      | inl both_hold ↦
          let both = and_true (is_decimal text) (nat_lt (digits_value 10 text) (2 ^ 64)) both_hold in
          let parts = and_true ((length text == 1 || not (get_or text 0 0 == 48)) && nat_lt 0 (length text)) (all_ascii_digits text) both.0 in
          let first = and_true (length text == 1 || not (get_or text 0 0 == 48)) (nat_lt 0 (length text)) parts.0 in
          absurd (not_read (parts.1, ltb-true 0 (length text) first.1, ltb-true (digits_value 10 text) (2 ^ 64) both.1))
      | inr neither ↦ rw neither refl
    ]

unpadded_test : (one plus zero' : Bool) → (plus || (not one && zero')) ≡ false → (one || not zero') ≡ true
unpadded_test true plus zero' e = refl
unpadded_test false true zero' e = absurd (cc)
unpadded_test false false true e = absurd (cc)
unpadded_test false false false e = refl

pub parse_number : {E : Type 0} (text : List ℕ) (r : Result ℕ E) → ParsesUnsigned 64 10 text r → ((get_or text 0 0 == 43) || (not (length text == 1) && (get_or text 0 0 == 48))) ≡ false → result_ok r ≡ number_at text
parse_number text r parses other =
    let no_sign : get_or text 0 0 ≢ 43 = grind (arith, nat_tests) in
    let plain : (length text == 1 || not (get_or text 0 0 == 48)) ≡ true = unpadded_test (length text == 1) (get_or text 0 0 == 43) (get_or text 0 0 == 48) other in
    number_read text r plain (parse_plain own 64 text r parses no_sign)

-- ---- what `split_once` gives

none_passes : {X : Type 0} (p : X → Bool) (xs : List X) → position_or_len p xs ≡ length xs → list_any p xs ≡ false
none_passes p [] e = refl
none_passes p (x ∷ xs) e =
    elim (cases_Bool (p x)) [
      | inl here ↦ absurd (let e' : 0 ≡ suc (length xs) = rw here at e in omega arith)
      | inr other ↦
          let e' : 1 + position_or_len p xs ≡ suc (length xs) = rw other at e in
          rw other (none_passes p xs (omega arith))
    ]

pub token_split : (text : List ℕ) (r : Option (Bor (List ℕ) × Bor (List ℕ))) → IsSplitOnceResult 58 text r → MatchOption r (token_at text ≡ None) (λ x. token_at text ≡ both_numbers (number_at x.0.now) (number_at x.1.now))
token_split text None split = rw (none_passes is_colon text (split_once_first 58 text None split (omega arith))) refl
token_split text (Some (revision, offset)) split =
    let at' = split_once_first 58 text (Some (revision, offset)) split (omega arith) in
    let some : list_any is_colon text ≡ true = list_any_at is_colon text (position_or_len is_colon text) 0 at'.0 (passes_at_first is_colon text 0 at'.0) in
    rw (some, at'.1, at'.2) refl
