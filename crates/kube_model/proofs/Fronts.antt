-- A front of a trace is the trace of its turns.
use Rattle.std.proofs.Common.{ℕ, zero, suc, ◌+◌, ◌≤◌, List, [], ◌∷◌, ◌++◌, Option, length, take, refl, arith}
use Rattle.kube_model.specs.World.{World}
use Rattle.kube_model.specs.History.{Turn, Step}
use Rattle.kube_model.specs.Traces.{IsTrace, Made, step}

module _ {O B : Type 0} (w : World O B) where
  pub front : (policies : ℕ → ℕ → O → Option ℕ) (h : List (Step O)) (ts : List Turn) (ms : List (Made O)) (n : ℕ) → n ≤ length ms → IsTrace w policies h ts ms
      → IsTrace w policies h (take n ts) (take n ms)
  front policies h ts ms zero l k = refl
  front policies h [] [] (suc n) l k = refl
  front policies h [] (m ∷ ms) (suc n) l k = absurd (cc)
  front policies h (t ∷ ts) [] (suc n) l k = absurd (omega (arith, l))
  front policies h (t ∷ ts) (m ∷ ms) (suc n) l k = (k.0, k.1, front (λ i. policies (i + 1)) (h ++ step t m ∷ []) ts ms n (omega (arith, l)) k.2)
