-- How many steps a search takes that halves its width.
use Rattle.std.proofs.Common.{◌≡◌, ℕ, ◌+◌, ◌*◌, ◌^◌, ◌<◌, ◌≤◌, arith}
use Rattle.std.proofs.lemmas.Nat.{pow-add, mul-le}
use Rattle.kube_reflect.specs.Indexes.{IsLookUp}

-- so far, with this width left
pub record Halves (n start now width : ℕ) : Type 0 where
  pub taken : ℕ
  pub counted : now ≡ start + taken
  pub halves : 2 ^ taken * width ≤ n
  pub bound : 2 ^ taken ≤ 2 * n + 1

pub halves_first : (n start now width : ℕ) → now ≡ start → width ≤ n → Halves n start now width
halves_first n start now width e h = record { taken = 0; counted = omega arith; halves = omega arith; bound = omega arith }

pub halves_more : (n start now now' width width' : ℕ) → Halves n start now width → now' ≡ now + 1 → 0 < width → 2 * width' ≤ width → Halves n start now' width'
halves_more n start now now' width width' h e some less =
    let power : 2 ^ (h.taken + 1) ≡ 2 ^ h.taken * 2 = pow-add 2 h.taken 1 in
    let wide : 2 ^ h.taken * (2 * width') ≤ 2 ^ h.taken * width = mul-le (2 ^ h.taken) (2 * width') (2 ^ h.taken) width (omega arith) less in
    let one : 2 ^ h.taken * 1 ≤ 2 ^ h.taken * width = mul-le (2 ^ h.taken) 1 (2 ^ h.taken) width (omega arith) some in
    let halves = h.halves in
    let counted = h.counted in
    record {
      taken = h.taken + 1;
      counted = omega arith;
      halves = rw power (omega arith);
      bound = rw power (omega arith);
    }

pub looked_up : (n start now width : ℕ) → Halves n start now width → IsLookUp n start now
looked_up n start now width h = record { taken = h.taken; counted = h.counted; bound = h.bound }

pub no_look : (n now : ℕ) → IsLookUp n now now
no_look n now = record { taken = 0; counted = omega arith; bound = omega arith }
