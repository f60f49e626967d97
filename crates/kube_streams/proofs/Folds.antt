-- The fold over texts and pairs, one after another.
use Rattle.std.proofs.Common.{◌≡◌, ℕ, zero, suc, ◌+◌, ◌<◌, List, [], ◌∷◌, length, take, arith, sym, ap, ◌∙◌}
use Rattle.std.specs.List.{flat_map}
use Rattle.std.proofs.lemmas.List.Sums.{fold-append}
use native.Mathlib.Nat.{not-suc-le-zero, le_of_suc-le-suc}
use lib.ListN.{get_or}
use Rattle.kube_streams.specs.Properties.{folded, folded_byte, pair_bytes, text_bytes}

module _ {T : Type 0} (bytes : T → List ℕ) where
  next : (h : ℕ) (xs : List T) (i : ℕ) (x : T) → i < length xs → x ≡ get_or xs i x → folded h (flat_map bytes (take (suc i) xs)) ≡ folded (folded h (flat_map bytes (take i xs))) (bytes x)
  next h [] i x l e = absurd (not-suc-le-zero l)
  next h (y ∷ ys) zero x l e = fold-append folded_byte h (bytes y) [] ∙ ap (λ z. folded h (bytes z)) (sym e)
  next h (y ∷ ys) (suc i) x l e =
      fold-append folded_byte h (bytes y) (flat_map bytes (take (suc i) ys)) ∙ next (folded h (bytes y)) ys i x (le_of_suc-le-suc l) e
      ∙ ap (λ t. folded t (bytes x)) (sym (fold-append folded_byte h (bytes y) (flat_map bytes (take i ys))))

  -- with one more
  pub more : (h : ℕ) (xs : List T) (i : ℕ) (x : T) → i < length xs → x ≡ get_or xs i x → folded h (flat_map bytes (take (i + 1) xs)) ≡ folded (folded h (flat_map bytes (take i xs))) (bytes x)
  more h xs i x l e =
      let n : i + 1 ≡ suc i = omega arith in
      ap (λ k. folded h (flat_map bytes (take k xs))) n ∙ next h xs i x l e

-- the first of the pairs that are left
pub pair_first : (h : ℕ) (key text : List ℕ) (rest : List (List ℕ × List ℕ)) → folded h (flat_map pair_bytes ((key, text) ∷ rest)) ≡ folded (folded (folded h (text_bytes key)) (text_bytes text)) (flat_map pair_bytes rest)
pair_first h key text rest =
    fold-append folded_byte h (pair_bytes (key, text)) (flat_map pair_bytes rest) ∙ ap (λ n. folded n (flat_map pair_bytes rest)) (fold-append folded_byte h (text_bytes key) (text_bytes text))
