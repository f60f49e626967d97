-- Polls of a stream that gave nothing.
use Rattle.std.proofs.Common.{ℕ, zero, suc, List, refl, subst}
use Rattle.kube_watch.specs.Streams.{Answer}
use Rattle.kube_streams.specs.Adapts.{Told, IsQuiet, AreQuiet}

module _ {S T I J : Type 0} (polls : S → ℕ → ℕ → Answer I → S → Type 0) (takes : ℕ → T → Told I → List (Told J) → T → Type 0) (unnamed : T → Told I → Type 0) (now : ℕ) where
  pub none_quiet : (s : S) (t : T) → AreQuiet polls takes unnamed 0 now s t s t
  none_quiet s t = (refl, refl)

  -- one more
  pub quiet_more : (n : ℕ) (s : S) (t : T) (r : S) (u : T) (answer : Answer I) (q : S) (v : T) → AreQuiet polls takes unnamed n now s t r u → polls r now 1 answer q → IsQuiet polls takes unnamed now u answer v
      → AreQuiet polls takes unnamed (suc n) now s t q v
  quiet_more zero s t r u answer q v e p i =
      (answer, q, v, subst (λ x. polls x now 1 answer q) e.0 p, subst (λ x. IsQuiet polls takes unnamed now x answer v) e.1 i, (refl, refl))
  quiet_more (suc n) s t r u answer q v e p i = (e.0, e.1, e.2, e.3, e.4, quiet_more n e.1 e.2 r u answer q v e.5 p i)
