-- Servers whose logs go on.
use Rattle.std.proofs.Common.{◌≡◌, ℕ, ◌≤◌, List, [], ◌∷◌, ◌++◌, sym, ap, ◌∙◌, append_assoc, append-nil, arith}
use Rattle.kube_server.specs.History.{Change, IsLater}

pub later_same : {V : Type 0} (a : List (Change V)) (m : ℕ) → IsLater a a m m
later_same a m = record { more = []; goes_on = sym (append-nil a); rises = omega arith }

pub later_later : {V : Type 0} (a b c : List (Change V)) (m n p : ℕ) → IsLater a b m n → IsLater b c n p → IsLater a c m p
later_later a b c m n p h k =
    let first = h.rises in
    let second = k.rises in
    record {
      more = h.more ++ k.more;
      goes_on = k.goes_on ∙ (ap (λ x. x ++ k.more) h.goes_on ∙ append_assoc a h.more k.more);
      rises = omega (arith, first, second);
    }

pub later_equal : {V : Type 0} (a b : List (Change V)) (m n : ℕ) → a ≡ b → m ≡ n → IsLater a b m n
later_equal a b m n e f = record { more = []; goes_on = sym e ∙ sym (append-nil a); rises = omega (arith, f) }
