-- One entry more.
use Rattle.std.proofs.Common.{◌≡◌, List, [], ◌∷◌, ◌++◌, refl, sym, subst}
use Rattle.kube_lock_tests.specs.Stocks.{Entry, Stocked, Happens, Leaves, MayHappen}

module _ {K D : Type 0} where
  pub may_happen : (s : Stocked K D) (es : List (Entry K)) (after : Stocked K D) → Leaves s es after → MayHappen s es
  may_happen s [] after h = tt
  may_happen s (e ∷ es) after h = (h.0, h.1, may_happen h.0 es after h.2)

  leaves_snoc : (s : Stocked K D) (es : List (Entry K)) (e : Entry K) (after next : Stocked K D) → Leaves s es after → Happens after e next → Leaves s (es ++ e ∷ []) next
  leaves_snoc s [] e after next h k = (next, subst (λ (x : Stocked K D). Happens x e next) h k, refl)
  leaves_snoc s (x ∷ xs) e after next h k = (h.0, h.1, leaves_snoc h.0 xs e after next h.2 k)

  pub leaves_more : (s : Stocked K D) (es new : List (Entry K)) (e : Entry K) (after next : Stocked K D) → new ≡ es ++ e ∷ [] → Leaves s es after → Happens after e next → Leaves s new next
  leaves_more s es new e after next is h k = subst (λ (l : List (Entry K)). Leaves s l next) (sym is) (leaves_snoc s es e after next h k)
