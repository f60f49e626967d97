-- The texts of whole numbers.
use Rattle.std.proofs.Common.{◌≡◌, ℕ, ℤ, pos, negsuc, Bool, true, false, ◌||◌, Some, None, true≢false, sym, ap, refl, decimal, unwrap_or, is_some}
use Rattle.std.specs.Fmt.{signed_decimal}
use Rattle.serde_json.specs.Data.{Num, unsigned, negative, float}
use Rattle.serde_json.specs.Find.{as_u64, as_i64, is_float, of_integer}
use Rattle.serde_json.specs.Written.{number_text}

pub unsigned_text : (x : Num) (n : ℕ) → as_u64 x ≡ Some n → number_text x ≡ decimal n
unsigned_text (unsigned m) n e = let k : m ≡ n = ap (λ o. unwrap_or o 0) e in ap decimal k
unsigned_text (negative z) n e = absurd (true≢false (sym (ap is_some e)))
unsigned_text (float x) n e = absurd (true≢false (sym (ap is_some e)))

pub negative_text : (x : Num) (z : ℤ) → as_u64 x ≡ None → as_i64 x ≡ Some z → number_text x ≡ signed_decimal z
negative_text (unsigned m) z h e = absurd (true≢false (ap is_some h))
negative_text (negative w) z h e = let k : w ≡ z = ap (λ o. unwrap_or o z) e in ap signed_decimal k
negative_text (float x) z h e = absurd (true≢false (sym (ap is_some e)))

pub no_other : (x : Num) → as_u64 x ≡ None → as_i64 x ≡ None → is_float x ≡ true
no_other (unsigned m) h e = absurd (true≢false (ap is_some h))
no_other (negative w) h e = absurd (true≢false (ap is_some e))
no_other (float x) h e = refl

pub neither : (a b : Bool) → (a || b) ≡ false → (a ≡ false) × (b ≡ false)
neither true b h = absurd (true≢false h)
neither false b h = (refl, h)

pub integer_text : (z : ℤ) → number_text (of_integer z) ≡ signed_decimal z
integer_text (pos n) = refl
integer_text (negsuc n) = refl
