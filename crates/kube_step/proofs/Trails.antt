-- Exchanges of a turn that are joined.
use Rattle.std.proofs.Common.{ℕ, List, [], ◌∷◌, ◌++◌, sym, subst, append_assoc, append-nil}
use Rattle.kube_model.specs.World.{World}
use Rattle.kube_model.specs.History.{Exchange, Turn, Step}
use Rattle.kube_model.specs.Named.{EachIsNamed}
use Rattle.kube_model.specs.Traces.{EachIsNext}

module _ {O B : Type 0} (w : World O B) (h : List (Step O)) (t : Turn) where
  pub next-append : (before xs ys : List (Exchange O)) → EachIsNext w h t before xs → EachIsNext w h t (before ++ xs) ys → EachIsNext w h t before (xs ++ ys)
  next-append before [] ys p q = subst (λ zs. EachIsNext w h t zs ys) (append-nil before) q
  next-append before (x ∷ xs) ys p q = (p.0, next-append (before ++ x ∷ []) xs ys p.1 (subst (λ zs. EachIsNext w h t zs ys) (sym (append_assoc before (x ∷ []) xs)) q))

  pub named-append : (named : ℕ → List (Exchange O) → Exchange O → Type 0) (before xs ys : List (Exchange O)) → EachIsNamed w named h t before xs → EachIsNamed w named h t (before ++ xs) ys → EachIsNamed w named h t before (xs ++ ys)
  named-append named before [] ys p q = subst (λ zs. EachIsNamed w named h t zs ys) (append-nil before) q
  named-append named before (x ∷ xs) ys p q = (p.0, named-append named (before ++ x ∷ []) xs ys p.1 (subst (λ zs. EachIsNamed w named h t zs ys) (sym (append_assoc before (x ∷ []) xs)) q))
