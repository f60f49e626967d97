-- Histories that go on, as ones from the beginning.
use Rattle.std.proofs.Common.{◌≡◌, ℕ, zero, suc, ◌+◌, ◌-◌, ◌<◌, ◌≤◌, Bool, true, false, nat_lt, ◌||◌, List, [], ◌∷◌, ◌++◌, take, length, Option, None, if◌then◌else◌, refl, sym, ap, subst, ◌∙◌, append_assoc, append-nil, arith}
use Rattle.std.proofs.lemmas.Bool.{ltb-true, ltb-false}
use Rattle.kube_model.specs.World.{World, Settings, Watched, feed_of}
use Rattle.kube_model.specs.History.{Turn, Step, exchanges}
use Rattle.kube_model.specs.Pause.{gave_up}
use Rattle.kube_model.specs.Settled.{IsSettled}
use Rattle.kube_model.specs.Shutdowns.{is_shut}
use Rattle.kube_model.specs.Takes.{running}
use Rattle.kube_model.specs.Traces.{IsRecord, IsTrace, Made, step, steps, has_ended}
use Rattle.kube_model.proofs.Joins.{joined}
use Rattle.kube_model.proofs.SettledSteps.{settled-trace}
use Rattle.kube_history.specs.Running.{MayRun}
use Rattle.kube_history.proofs.Endings.{none-runs, trace-may}
use Rattle.kube_step.specs.Policies.{joined_policies}
use Rattle.kube_control.specs.Histories.{IsOfTrace, EachIsSettled, EachMayRun}

lt-is : (a b : ℕ) → a < b → nat_lt a b ≡ true
lt-is a b l = go (nat_lt a b) refl
  where
    go : (c : Bool) → nat_lt a b ≡ c → nat_lt a b ≡ true
    go true e = e
    go false e = absurd (let k = ltb-false a b e in omega (arith, l, k))

lt-not : (a b : ℕ) → b ≤ a → nat_lt a b ≡ false
lt-not a b l = go (nat_lt a b) refl
  where
    go : (c : Bool) → nat_lt a b ≡ c → nat_lt a b ≡ false
    go true e = absurd (let k = ltb-true a b e in omega (arith, l, k))
    go false e = e

not-either : (a b : Bool) → (a || b) ≡ false → (a ≡ false) × (b ≡ false)
not-either true b e = absurd (cc)
not-either false b e = (refl, e)

module _ {O B : Type 0} (w : World O B) where
  abbrev pub Policies : Type 0
  Policies = ℕ → ℕ → O → Option ℕ

  -- a trace looks at the answers of its own turns alone
  same-answers : (p q : Policies) (h : List (Step O)) (ts : List Turn) (ms : List (Made O)) → ((n : ℕ) → n < length ts → p n ≡ q n) → IsTrace w p h ts ms → IsTrace w q h ts ms
  same-answers p q h [] ms e k = k
  same-answers p q h (t ∷ ts) [] e k = k
  same-answers p q h (t ∷ ts) (m ∷ ms) e k = (
    k.0,
    subst (λ z. IsRecord w z h t m) (e 0 (omega arith)) k.1,
    same-answers (λ n. p (n + 1)) (λ n. q (n + 1)) (h ++ step t m ∷ []) ts ms (λ n l. e (n + 1) (omega (arith, l))) k.2,
  )

  -- after the end there are no records
  none-after : (p : Policies) (h : List (Step O)) (us : List Turn) (ns : List (Made O)) → has_ended h ≡ true → IsTrace w p h us ns → ns ≡ []
  none-after p h [] ns e k = k
  none-after p h (u ∷ us) [] e k = refl
  none-after p h (u ∷ us) (n ∷ ns) e k = absurd (let z : false ≡ true = sym k.0 ∙ e in cc)

  steps-none : (us : List Turn) → steps {O = O} us [] ≡ []
  steps-none [] = refl
  steps-none (u ∷ us) = refl

  steps-joined : (p q : Policies) (h : List (Step O)) (ts us : List Turn) (ms ns : List (Made O)) → IsTrace w p h ts ms → IsTrace w q (h ++ steps ts ms) us ns → steps (ts ++ us) (ms ++ ns) ≡ steps ts ms ++ steps us ns
  steps-joined p q h [] us [] ns k l = refl
  steps-joined p q h [] us (m ∷ ms) ns k l = absurd (cc)
  steps-joined p q h (t ∷ ts) us [] ns k l =
      let none = none-after q h us ns k (subst (λ g. IsTrace w q g us ns) (append-nil h) l) in
      ap (steps (t ∷ (ts ++ us))) none ∙ sym (ap (steps us) none ∙ steps-none us)
  steps-joined p q h (t ∷ ts) us (m ∷ ms) ns k l =
      ap (λ ss. step t m ∷ ss) (steps-joined (λ n. p (n + 1)) q (h ++ step t m ∷ []) ts us ms ns k.2 (subst (λ g. IsTrace w q g us ns) (sym (append_assoc h (step t m ∷ []) (steps ts ms))) l))

  module _ (p : Policies) (ts : List Turn) (ms : List (Made O)) (k : IsTrace w p [] ts ms) (q : Policies) (us : List Turn) (ns : List (Made O)) (l : IsTrace w q (steps ts ms) us ns) where
    abbrev answers : Policies
    answers = joined_policies p (length ts) q

    whole : IsTrace w answers [] (ts ++ us) (ms ++ ns)
    whole =
        joined w answers [] ts us ms ns
        (same-answers p answers [] ts ms (λ n b. λ i j o. (if (sym (lt-is n (length ts) b) i) then p n j o else q (n - length ts) j o)) k)
        (same-answers q (λ n. answers (length ts + n)) (steps ts ms) us ns (λ n b. λ i j o. (if (sym (lt-not (length ts + n) (length ts) (omega arith)) i) then p (length ts + n) j o else q (less n i) j o)) l)
      where
        less : (n : ℕ) → n ≡ length ts + n - length ts
        less n = omega arith

  -- a history of a trace goes on as one
  pub goes-on : (h : List (Step O)) (q : Policies) (us : List Turn) (ns : List (Made O)) → IsOfTrace w h → IsTrace w q h us ns → IsOfTrace w (h ++ steps us ns)
  goes-on h q us ns k l =
      let now = subst (λ g. IsTrace w q g us ns) k.is_steps l in
      record {
        policies = joined_policies k.policies (length k.turns) q;
        turns = k.turns ++ us;
        made = k.made ++ ns;
        traced = whole k.policies k.turns k.made k.traced q us ns now;
        is_steps = ap (λ g. g ++ steps us ns) k.is_steps ∙ sym (steps-joined k.policies q [] k.turns us k.made ns k.traced now);
      }

  pub one-more : (h : List (Step O)) (policy : ℕ → O → Option ℕ) (t : Turn) (m : Made O) → has_ended h ≡ false → IsOfTrace w h → IsRecord w policy h t m → IsOfTrace w (h ++ step t m ∷ [])
  one-more h policy t m going k r = goes-on h (λ n. policy) (t ∷ []) (m ∷ []) k (going, r, refl)

  pub none-yet : IsOfTrace w []
  none-yet = record {
    policies = λ n j o. None;
    turns = [];
    made = [];
    traced = refl;
    is_steps = refl;
  }

  pub each-settled : (settings : Settings) → feed_of w 0 ≡ Watched settings → (h : List (Step O)) → IsOfTrace w h → EachIsSettled w h
  each-settled settings watched h k n o =
      let front = ap (take n) k.is_steps in
      let b = not-either (is_shut (take n h)) (gave_up w (exchanges (take n h))) o in
      subst (IsSettled w) (sym front)
      (settled-trace w settings watched k.policies k.turns k.made k.traced n (subst (λ g. is_shut g ≡ false) front b.0) (subst (λ g. gave_up w (exchanges g) ≡ false) front b.1))

  may-each : (p : Policies) (h : List (Step O)) (ts : List Turn) (ms : List (Made O)) → IsTrace w p h ts ms → MayRun w.limit (running h) → (n : ℕ) → MayRun w.limit (running (h ++ take n (steps ts ms)))
  may-each p h ts ms k r zero = subst (λ g. MayRun w.limit (running g)) (sym (append-nil h)) r
  may-each p h [] ms k r (suc n) = subst (λ g. MayRun w.limit (running g)) (sym (append-nil h)) r
  may-each p h (t ∷ ts) [] k r (suc n) = subst (λ g. MayRun w.limit (running g)) (sym (append-nil h)) r
  may-each p h (t ∷ ts) (m ∷ ms) k r (suc n) =
      subst (λ g. MayRun w.limit (running g)) (append_assoc h (step t m ∷ []) (take n (steps ts ms)))
      (may-each (λ i. p (i + 1)) (h ++ step t m ∷ []) ts ms k.2 (trace-may w p h (t ∷ []) (m ∷ []) (k.0, k.1, refl) r) n)

  pub each-may : (h : List (Step O)) → IsOfTrace w h → EachMayRun w h
  each-may h k n = subst (λ g. MayRun w.limit (running g)) (ap (take n) (sym k.is_steps)) (may-each k.policies [] k.turns k.made k.traced (none-runs w) n)
