-- A generated input has one run, and so one line of totals.
use Rattle.std.proofs.Common.{◌≡◌, ℕ, ◌+◌, false, List, [], ◌∷◌, ◌++◌, map, length, Option, refl, sym, ap, ap₂, subst, ◌∙◌, arith}
use Rattle.kube_meta.specs.Reading.{ObjectData}
use Rattle.kube_model.specs.History.{Dated, Exchange, Step, Turn, TurnRecord, dated, exchanges}
use Rattle.kube_model.specs.Stored.{store_after}
use Rattle.kube_model.specs.Traces.{IsRecord, IsTrace, has_ended, step, steps, unread}
use Rattle.kube_model.specs.World.{World}
use Rattle.kube_step.specs.Calls.{ArePolled, dated_in}
use Rattle.kube_control.proofs.Determined.{ArePollsDetermined}
use Rattle.kube_control.proofs.OneTrace.{after-one, polled-split, turn-same}
use Rattle.kube_run.specs.GeneratedRun.{AreTotals, AreTurnsFrom, input_of, totals_of}
use Rattle.kube_run.specs.Played.{RelatedAnswers, apis_at_first, root_answers, script_world}
use Rattle.kube_run.specs.declared.totals.Totals.{Totals}
use Rattle.kube_run.proofs.Once.{false-is-true, polls-determined}

module _ {O B R S : Type 0} (w : World O B) (root_polls : R → List (Dated O) → ℕ → Exchange O → R → Type 0) (related_polls : S → ℕ → List (Dated O) → ℕ → Exchange O → S → Type 0)
    (determined : ArePollsDetermined w root_polls related_polls (λ a b. a ≡ b) (λ a b. a ≡ b)) where
  abbrev Asked : List (Dated O) → R → S → List (Dated O) → R → S → Type 0
  Asked before r s ds r' s' = ArePolled root_polls related_polls before r s ds r' s'

  -- each turn is that of what ran before it, and its record is one
  pub generated-same : (policy : O → Option ℕ) (k : ℕ) (h : List (Step O)) (ts us : List Turn) (rs qs : List (TurnRecord O)) (r r' q' : R) (s s' u' : S) → length ts ≡ length us → AreTurnsFrom k h ts rs → AreTurnsFrom k h us qs
      → IsTrace w (λ n k. policy) h ts (map unread rs) → IsTrace w (λ n k. policy) h us (map unread qs) → Asked (exchanges h) r s (dated_in rs) r' s' → Asked (exchanges h) r s (dated_in qs) q' u'
      → (rs ≡ qs) × (steps ts (map unread rs) ≡ steps us (map unread qs))
  generated-same policy k h [] [] [] [] r r' q' s s' u' e a b m n p z = (refl, refl)
  generated-same policy k h [] [] [] (g ∷ qs) r r' q' s s' u' e a b m n p z = absurd (cc)
  generated-same policy k h [] [] (f ∷ rs) qs r r' q' s s' u' e a b m n p z = absurd (cc)
  generated-same policy k h [] (u ∷ us) rs qs r r' q' s s' u' e a b m n p z = absurd (omega (arith, e))
  generated-same policy k h (t ∷ ts) [] rs qs r r' q' s s' u' e a b m n p z = absurd (omega (arith, e))
  generated-same policy k h (t ∷ ts) (u ∷ us) [] [] r r' q' s s' u' e a b m n p z = (refl, refl)
  generated-same policy k h (t ∷ ts) (u ∷ us) [] (g ∷ qs) r r' q' s s' u' e a b m n p z = absurd (false-is-true (has_ended h) n.0 m)
  generated-same policy k h (t ∷ ts) (u ∷ us) (f ∷ rs) [] r r' q' s s' u' e a b m n p z = absurd (false-is-true (has_ended h) m.0 n)
  generated-same policy k h (t ∷ ts) (u ∷ us) (f ∷ rs) (g ∷ qs) r r' q' s s' u' e a b m n p z =
      let turn : t ≡ u = a.0 ∙ sym b.0 in
      let made : IsRecord w (λ k. policy) h t (unread g) = subst (λ v. IsRecord w (λ k. policy) h v (unread g)) (sym turn) n.1 in
      let p' = polled-split w root_polls related_polls (exchanges h) r s (dated f.at f.exchanges) (dated_in rs) r' s' p in
      let z' = polled-split w root_polls related_polls (exchanges h) r s (dated g.at g.exchanges) (dated_in qs) q' u' z in
      let one = turn-same w root_polls related_polls (λ a b. a ≡ b) (λ a b. a ≡ b) determined (λ k. policy) h t f g r p'.0 r z'.0 s p'.1 s z'.1 refl refl m.1 made p'.2 z'.2 in
      let after = after-one w root_polls related_polls (λ a b. a ≡ b) (λ a b. a ≡ b) determined (λ k. policy) h t f m.1 in
      let same : step t (unread f) ≡ step u (unread g) = ap₂ (λ v x. step v (unread x)) turn one.0 in
      let rest =
      generated-same policy (k + 1) (h ++ step t (unread f) ∷ []) ts us rs qs p'.0 r' q' p'.1 s' u' (omega (arith, e)) a.1
      (subst (λ x. AreTurnsFrom (k + 1) (h ++ x ∷ []) us qs) (sym same) b.1)
      m.2
      (subst (λ x. IsTrace w (λ n k. policy) (h ++ x ∷ []) us (map unread qs)) (sym same) n.2)
      (subst (λ ds. Asked ds p'.0 p'.1 (dated_in rs) r' s') after p'.3)
      (subst (λ ds. Asked ds p'.0 p'.1 (dated_in qs) q' u') after
      (subst (λ v. Asked (exchanges h ++ dated f.at f.exchanges) v p'.1 (dated_in qs) q' u') (sym one.1)
      (subst (λ v. Asked (exchanges h ++ dated f.at f.exchanges) z'.0 v (dated_in qs) q' u') (sym one.2)
      (subst (λ v. Asked (exchanges h ++ dated v.at v.exchanges) z'.0 z'.1 (dated_in qs) q' u') (sym one.0) z'.3)))) in (
        ap₂ (λ v vs. v ∷ vs) one.0 rest.0,
        ap₂ (λ x xs. x ∷ xs) same rest.1,
      )

pub one-total : (seed objects turns : ℕ) (a b : Totals) → AreTotals seed objects turns a → AreTotals seed objects turns b → a ≡ b
one-total seed objects turns a b k l =
    let s = input_of seed objects turns in
    let same =
    generated-same (script_world s) (root_answers s) (RelatedAnswers s) (polls-determined s) (λ o. s.error_requeue) 0 [] k.turns l.turns k.records l.records (apis_at_first s).root k.run.left.root l.run.left.root (apis_at_first s).related
    k.run.left.related l.run.left.related (k.run.count_is ∙ sym l.run.count_is) k.run.turns_are l.run.turns_are k.run.played.trace l.run.played.trace k.run.played.answered l.run.played.answered in
    k.totals_are ∙ (ap₂ (λ rs n. totals_of rs n) same.0 (ap (λ h. length (store_after (script_world s) h)) same.1) ∙ sym l.totals_are)
