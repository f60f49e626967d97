-- The trace of turns joined is the traces joined.
use Rattle.std.proofs.Common.{◌≡◌, ℕ, ◌+◌, true, List, [], ◌∷◌, ◌++◌, Option, length, refl, sym, subst, ◌∙◌, append_assoc, append-nil, arith}
use Rattle.std.proofs.lemmas.Bool.{false≢true}
use Rattle.kube_model.specs.World.{World}
use Rattle.kube_model.specs.History.{Turn, Step}
use Rattle.kube_model.specs.Traces.{IsTrace, Made, step, steps, has_ended}

module _ {O B : Type 0} (w : World O B) where
  abbrev Policies : Type 0
  Policies = ℕ → ℕ → O → Option ℕ

  -- after the end there are no records
  none-after : (policies : Policies) (h : List (Step O)) (us : List Turn) (ns : List (Made O)) → has_ended h ≡ true → IsTrace w policies h us ns → ns ≡ []
  none-after policies h [] ns e k = k
  none-after policies h (u ∷ us) [] e k = refl
  none-after policies h (u ∷ us) (n ∷ ns) e k = absurd (false≢true (sym k.0 ∙ e))

  -- the policies of the turns after these
  abbrev after : Policies → List Turn → Policies
  after policies ts = λ n. policies (length ts + n)

  after-none : (policies : Policies) → after policies [] ≡ policies
  after-none policies = λ i n. policies (same n i)
    where
      same : (n : ℕ) → length {A = Turn} [] + n ≡ n
      same n = omega arith

  after-one : (policies : Policies) (t : Turn) (ts : List Turn) → after policies (t ∷ ts) ≡ after (λ n. policies (n + 1)) ts
  after-one policies t ts = λ i n. policies (same n i)
    where
      same : (n : ℕ) → length (t ∷ ts) + n ≡ length ts + n + 1
      same n = omega arith

  pub joined : (policies : Policies) (h : List (Step O)) (ts us : List Turn) (ms ns : List (Made O)) → IsTrace w policies h ts ms
      → IsTrace w (after policies ts) (h ++ steps ts ms) us ns → IsTrace w policies h (ts ++ us) (ms ++ ns)
  joined policies h [] us ms ns k l =
      subst (λ ps. IsTrace w policies h us (ps ++ ns)) (sym k)
      (subst (λ (p : Policies). IsTrace w p h us ns) (after-none policies) (subst (λ g. IsTrace w (after policies []) g us ns) (append-nil h) l))
  joined policies h (t ∷ ts) us [] ns k l =
      subst (λ ps. IsTrace w policies h (t ∷ (ts ++ us)) ps)
      (sym (none-after (after policies (t ∷ ts)) h us ns k (subst (λ g. IsTrace w (after policies (t ∷ ts)) g us ns) (append-nil h) l))) k
  joined policies h (t ∷ ts) us (m ∷ ms) ns k l = (
    k.0,
    k.1,
    joined (λ n. policies (n + 1)) (h ++ step t m ∷ []) ts us ms ns k.2
        (subst (λ g. IsTrace w (after (λ n. policies (n + 1)) ts) g us ns) (sym (append_assoc h (step t m ∷ []) (steps ts ms)))
        (subst (λ (p : Policies). IsTrace w p (h ++ step t m ∷ steps ts ms) us ns) (after-one policies t ts) l)),
  )
