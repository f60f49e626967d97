-- One more turn of a trace.
use Rattle.std.proofs.Common.{◌≡◌, ℕ, suc, ◌+◌, true, false, List, [], ◌∷◌, ◌++◌, map, length, Option, refl, sym, ap, ap₂, subst, ◌∙◌, append_assoc, append-nil, arith}
use Rattle.std.specs.List.{flat_map}
use Rattle.std.proofs.lemmas.Grind.{flat_map-append}
use Rattle.kube_model.specs.World.{World}
use Rattle.kube_model.specs.History.{Exchange, Turn, TurnRecord, Step, dated, exchanges}
use Rattle.kube_model.specs.Named.{AreNamedTurns, EachIsNamed}
use Rattle.kube_model.specs.Traces.{has_ended, IsRecord, IsTrace, Made, unread, step, steps}
use Rattle.kube_step.specs.Policies.{answered_in, answered_by}

-- what was answered in the turns after the first
pub later : {O : Type 0} (q : TurnRecord O) (rs : List (TurnRecord O)) → (λ n. answered_by {O = O} (q ∷ rs) (n + 1)) ≡ answered_by rs
later {O} q rs = λ i n. answered_by {O = O} (q ∷ rs) (next n i)
  where
    next : (n : ℕ) → n + 1 ≡ suc n
    next n = omega arith

module _ {O B : Type 0} (w : World O B) where
  -- one more, where none was the last
  pub trace-push : (h : List (Step O)) (ts : List Turn) (rs : List (TurnRecord O)) (t : Turn) (r : TurnRecord O) → length ts ≡ length rs
      → IsTrace w (answered_by rs) h ts (map unread rs) → has_ended (h ++ steps ts (map unread rs)) ≡ false → IsRecord w (answered_in r.finished) (h ++ steps ts (map unread rs)) t (unread r)
      → IsTrace w (answered_by (rs ++ r ∷ [])) h (ts ++ t ∷ []) (map unread (rs ++ r ∷ []))
  trace-push h [] [] t r e k going made = (subst (λ g. has_ended g ≡ false) (append-nil h) going, subst (λ g. IsRecord w (answered_in r.finished) g t (unread r)) (append-nil h) made, refl)
  trace-push h [] (q ∷ rs) t r e k going made = absurd (omega (arith, e))
  trace-push h (u ∷ ts) [] t r e k going made = absurd (omega (arith, e))
  trace-push h (u ∷ ts) (q ∷ rs) t r e k going made = (
    k.0,
    k.1,
    subst (λ p. IsTrace w p (h ++ step u (unread q) ∷ []) (ts ++ t ∷ []) (map unread (rs ++ r ∷ []))) (sym (later q (rs ++ r ∷ []))) (trace-push (h ++ step u (unread q) ∷ []) ts rs t r (omega (arith, e))
        (subst (λ p. IsTrace w p (h ++ step u (unread q) ∷ []) ts (map unread rs)) (later q rs) k.2)
        (subst (λ g. has_ended g ≡ false) (sym (append_assoc h (step u (unread q) ∷ []) (steps ts (map unread rs)))) going)
        (subst (λ g. IsRecord w (answered_in r.finished) g t (unread r)) (sym (append_assoc h (step u (unread q) ∷ []) (steps ts (map unread rs)))) made)),
  )

  -- no turn after the last is read
  pub trace-ends : (policies : ℕ → ℕ → O → Option ℕ) (h : List (Step O)) (ts us : List Turn) (ms : List (Made O)) → IsTrace w policies h ts ms → has_ended (h ++ steps ts ms) ≡ true → IsTrace w policies h (ts ++ us) ms
  trace-ends policies h [] [] ms k ended = k
  trace-ends policies h [] (u ∷ us) [] k ended = subst (λ g. has_ended g ≡ true) (append-nil h) ended
  trace-ends policies h [] (u ∷ us) (m ∷ ms) k ended = absurd (cc)
  trace-ends policies h (t ∷ ts) us [] k ended = k
  trace-ends policies h (t ∷ ts) us (m ∷ ms) k ended = (
    k.0,
    k.1,
    trace-ends (λ n. policies (n + 1)) (h ++ step t m ∷ []) ts us ms k.2 (subst (λ g. has_ended g ≡ true) (sym (append_assoc h (step t m ∷ []) (steps ts ms))) ended),
  )

  -- and has no record
  pub steps-end : (policies : ℕ → ℕ → O → Option ℕ) (h : List (Step O)) (ts us : List Turn) (ms : List (Made O)) → IsTrace w policies h ts ms → steps (ts ++ us) ms ≡ steps ts ms
  steps-end policies h [] [] [] k = refl
  steps-end policies h [] (u ∷ us) [] k = refl
  steps-end policies h [] us (m ∷ ms) k = absurd (cc)
  steps-end policies h (t ∷ ts) us [] k = refl
  steps-end policies h (t ∷ ts) us (m ∷ ms) k = ap (λ ss. step t m ∷ ss) (steps-end (λ n. policies (n + 1)) (h ++ step t m ∷ []) ts us ms k.2)

  -- where none was the last, each turn has one
  pub trace-long : (policies : ℕ → ℕ → O → Option ℕ) (h : List (Step O)) (ts : List Turn) (ms : List (Made O)) → IsTrace w policies h ts ms → has_ended (h ++ steps ts ms) ≡ false → length ts ≡ length ms
  trace-long policies h [] [] k going = refl
  trace-long policies h [] (m ∷ ms) k going = absurd (cc)
  trace-long policies h (t ∷ ts) [] k going = absurd (let z : true ≡ false = sym k ∙ subst (λ g. has_ended g ≡ false) (append-nil h) going in cc)
  trace-long policies h (t ∷ ts) (m ∷ ms) k going =
      let e = trace-long (λ n. policies (n + 1)) (h ++ step t m ∷ []) ts ms k.2 (subst (λ g. has_ended g ≡ false) (sym (append_assoc h (step t m ∷ []) (steps ts ms))) going) in
      omega (arith, e)

  pub steps-push : (ts : List Turn) (ms : List (Made O)) (t : Turn) (m : Made O) → length ts ≡ length ms → steps (ts ++ t ∷ []) (ms ++ m ∷ []) ≡ steps ts ms ++ step t m ∷ []
  steps-push [] [] t m e = refl
  steps-push [] (n ∷ ms) t m e = absurd (omega (arith, e))
  steps-push (u ∷ ts) [] t m e = absurd (omega (arith, e))
  steps-push (u ∷ ts) (n ∷ ms) t m e = ap (λ ss. step u n ∷ ss) (steps-push ts ms t m (omega (arith, e)))

  -- the exchanges of the turns are those of their records, each at its record's moment
  pub exchanges-are : (policies : ℕ → ℕ → O → Option ℕ) (h : List (Step O)) (ts : List Turn) (rs : List (TurnRecord O)) → IsTrace w policies h ts (map unread rs) → exchanges (steps ts (map unread rs)) ≡ flat_map (λ r. dated r.at r.exchanges) rs
  exchanges-are policies h [] [] k = refl
  exchanges-are policies h [] (r ∷ rs) k = absurd (cc)
  exchanges-are policies h (t ∷ ts) [] k = refl
  exchanges-are policies h (t ∷ ts) (r ∷ rs) k =
      ap₂ (λ n ds. dated n r.exchanges ++ ds) (sym (ap (λ (q : TurnRecord O). q.at) k.1.determined)) (exchanges-are (λ n. policies (n + 1)) (h ++ step t (unread r) ∷ []) ts rs k.2)

  pub named-push : (named : ℕ → List (Exchange O) → Exchange O → Type 0) (before ss : List (Step O)) (s : Step O) → AreNamedTurns w named before ss → EachIsNamed w named (before ++ ss) s.turn [] s.made.exchanges → AreNamedTurns w named before (ss ++ s ∷ [])
  named-push named before [] s k n = (subst (λ g. EachIsNamed w named g s.turn [] s.made.exchanges) (append-nil before) n, tt)
  named-push named before (q ∷ ss) s k n = (k.0, named-push named (before ++ q ∷ []) ss s k.1 (subst (λ g. EachIsNamed w named g s.turn [] s.made.exchanges) (sym (append_assoc before (q ∷ []) ss)) n))

  -- more of a history
  pub exchanges-more : (h g : List (Step O)) → exchanges (h ++ g) ≡ exchanges h ++ exchanges g
  exchanges-more h g = flat_map-append (λ (s : Step O). dated s.turn.at s.made.exchanges) h g
