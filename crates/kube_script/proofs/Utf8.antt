-- Bytes that are text, or have no reading.
use Rattle.std.proofs.Common.{◌≡◌, ℕ, List, Bool, true, false, cond, None, Err, refl, ap}
use Rattle.std.specs.Str.{IsUtf8, is_utf8}
use Rattle.std.proofs.lemmas.Str.{is_utf8-from_IsUtf8, IsUtf8-from_is_utf8}
use Rattle.serde_json.specs.Read.{read}
use Rattle.kube_script.specs.Whole.{syntax_fault, read_of}

pub is_text : (bs : List ℕ) → IsUtf8 bs → is_utf8 bs ≡ true
is_text bs h = is_utf8-from_IsUtf8 bs h

-- text without a reading is as no text
pub no_text : (bs : List ℕ) → (IsUtf8 bs → read bs ≡ None) → cond (is_utf8 bs) (read_of (read bs)) (Err syntax_fault) ≡ Err syntax_fault
no_text bs h = at (is_utf8 bs) refl
  where
    at : (b : Bool) → is_utf8 bs ≡ b → cond b (read_of (read bs)) (Err syntax_fault) ≡ Err syntax_fault
    at true e = ap read_of (h (IsUtf8-from_is_utf8 bs e))
    at false e = refl
