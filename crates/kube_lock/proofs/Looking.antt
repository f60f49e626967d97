-- A seat looks whether its turn has come.
use Rattle.std.proofs.Common.{◌≡◌, ◌≢◌, ℕ, ◌+◌, ◌%◌, ◌^◌, ◌≤◌, List, [], ◌∷◌, length, Bool, true, false, refl, sym, ap, subst, ◌∙◌, arith}
use Rattle.std.specs.Prelude.{Option, Some}
use mathlib.Core.Option.{some, none}
use lib.ListN.{get_elem?}
use Rattle.atomic_table.specs.Table.{State, Me, keeps, takes, step, Allows}
use Rattle.atomic_table.proofs.Lists.{set_again}
use Rattle.kube_lock.specs.declared.view.View.{View}
use Rattle.kube_lock.specs.Rule.{IsRuled, Fits, NoneHold, calls_of}
use Rattle.kube_lock.specs.Views.{served}
use Rattle.kube_lock.specs.Steps.{Looked, IsTold}
use Rattle.kube_lock.proofs.Fronts.{prefix_self}
use Rattle.kube_lock.proofs.Lists.{some_of, one_at, by_ticket}
use Rattle.kube_lock.proofs.Standing.{one_served, one_holds, each_set, held_set}
use Rattle.kube_lock.proofs.Drawing.{Left}

module _ {C E P : Type 0} (entries : C → List E) (number : E → ℕ) (opened : C → P) (Legal : P → List E → Type 0) (opening : P) where
  abbrev Rule : State (Option C) (View E P) → Type 0
  Rule = IsRuled entries number opened Legal opening

  -- what the history says of each view
  pub told : (s : State (Option C) (View E P)) (good : Rule s) (id : ℕ) (v : View E P) → get_elem? s.views id ≡ some v → IsTold number Legal v good.log
  told s good id v at =
      let mine = good.each id v at in
      record {
        legal = some_of (λ o. o ≡ opening) (λ o. Legal o good.log) (λ o e. subst (λ (p : P). Legal p good.log) (sym e) good.legal) v.opening mine.opens;
        seen = mine.seen;
        fronts = mine.fronts;
        own = mine.own;
        joined = mine.joined;
        others = some_of (λ c. (c ≡ good.given) × (good.counter ≡ id)) (λ c. (n : ℕ) → c ≤ n → calls_of number n good.log ≡ []) (λ c e n le. good.others n (let is = e.0 in omega arith)) v.given mine.count;
      }

  looks_served : (s : State (Option C) (View E P)) (good : Rule s) (id : ℕ) (v : View E P) → get_elem? s.views id ≡ some v → v.ticket ≡ Some good.served → v.holds ≡ false
      → Left entries number opened Legal opening s id [] 1 (λ k. k) (Looked entries number opened Legal (step 1 1 0 0 none) (v, [])) ((good.served + length good.queue) % 2 ^ 64 ∷ good.served ∷ length good.log ∷ [])
  looks_served s good id v at has idle =
      let w : View E P = served v good.log in
      let mine = good.each id v at in
      -- nobody holds the slot, since who does has this ticket
      let nobody : NoneHold s.views =
      (λ j u e. by_held u.holds refl (λ yes. absurd (
      let same : j ≡ id = one_served entries number opened Legal opening s good j id u v e at ((good.each j u e).holds yes).1 has in
      let is : u ≡ v = one_at s.views id u v (subst (λ (i : ℕ). get_elem? s.views i ≡ some u) same e) at in
      cc (ap (λ (x : View E P). x.holds) is, idle, yes)))) in
      let h = good.home nobody in (
        w,
        takes 0 (Some h.0),
        h.1,
        record {
          log = good.log;
          queue = good.queue;
          served = good.served;
          given = good.given;
          counter = good.counter;
          seat_of = good.seat_of;
          legal = good.legal;
          words = refl;
          small = good.small;
          held = λ k n e. let a = good.held k n e in let b = held_set s.views id v w at refl refl (good.seat_of n) n ((good.served + k) % 2 ^ 64) (a.1, a.2, a.3, a.4) in (a.0, b.0, b.1, b.2, b.3);
          once = good.once;
          few = good.few;
          others = good.others;
          each = each_set (Fits number opening good.log good.queue good.served good.given good.counter good.seat_of) s.views id w
              record {
                opens = mine.opens;
                seen = prefix_self good.log;
                fronts = mine.fronts;
                own = mine.own;
                joined = mine.joined;
                here = mine.here;
                kept = mine.kept;
                apart = mine.apart;
                ticket = mine.ticket;
                holds = λ _. (refl, has);
                count = mine.count;
              }
              (λ j u apart e. good.each j u e);
          home = λ none. absurd (one_holds entries number opened Legal opening s.views id v w at refl none);
        },
        (
          λ _. (
            record {
              value = h.0;
              hand = refl;
              tells = h.2;
              opens = some_of (λ o. o ≡ opening) (λ o. opened h.0 ≡ o) (λ o e. h.3 ∙ sym e) v.opening mine.opens;
              holds = refl;
            },
            refl,
            told s good id v at,
          ),
          λ not. absurd (not has),
        ),
      )
    where
      by_held : (b : Bool) → v.holds ≡ v.holds → (b ≡ true → b ≡ false) → b ≡ false
      by_held true is f = f refl
      by_held false is f = refl

  looks_else : (s : State (Option C) (View E P)) (good : Rule s) (id : ℕ) (v : View E P) → get_elem? s.views id ≡ some v → v.ticket ≢ Some good.served
      → Left entries number opened Legal opening s id [] 1 (λ k. k) (Looked entries number opened Legal (step 1 1 0 0 none) (v, [])) ((good.served + length good.queue) % 2 ^ 64 ∷ good.served ∷ length good.log ∷ [])
  looks_else s good id v at not = (
    v,
    keeps,
    tt,
    record {
      log = good.log;
      queue = good.queue;
      served = good.served;
      given = good.given;
      counter = good.counter;
      seat_of = good.seat_of;
      legal = good.legal;
      words = refl;
      small = good.small;
      held = λ k n e. let a = good.held k n e in let b = held_set s.views id v v at refl refl (good.seat_of n) n ((good.served + k) % 2 ^ 64) (a.1, a.2, a.3, a.4) in (a.0, b.0, b.1, b.2, b.3);
      once = good.once;
      few = good.few;
      others = good.others;
      each = λ j u e. good.each j u (subst (λ (vs : List (View E P)). get_elem? vs j ≡ some u) (set_again s.views id v at) e);
      home = λ none. good.home (subst NoneHold (set_again s.views id v at) none);
    },
    (λ has. absurd (not has), λ _. (refl, good.log, told s good id v at)),
  )

  looks : (id : ℕ) (v : View E P) → v.holds ≡ false → Allows Rule 1 id (v, []) 1 (λ k. k) (Looked entries number opened Legal (step 1 1 0 0 none) (v, []))
  looks id v idle s good deep at small =
      subst (Left entries number opened Legal opening s id [] 1 (λ k. k) (Looked entries number opened Legal (step 1 1 0 0 none) (v, []))) (sym good.words)
      (by_ticket v.ticket good.served (λ has. looks_served s good id v at has idle) (λ not. looks_else s good id v at not))

  pub looks_at : (slots id : ℕ) (me : Me (Option C) (View E P)) → slots ≡ 1 → me.1 ≡ [] → me.0.holds ≡ false → Allows Rule slots id me 1 (λ k. k) (Looked entries number opened Legal (step slots 1 0 0 none) me)
  looks_at slots id me one empty idle =
      subst (λ (k : ℕ). Allows Rule k id me 1 (λ q. q) (Looked entries number opened Legal (step k 1 0 0 none) me)) (sym one)
      (subst (λ (held : List (ℕ × Option C)). Allows Rule 1 id (me.0, held) 1 (λ q. q) (Looked entries number opened Legal (step 1 1 0 0 none) (me.0, held))) (sym empty)
      (looks id me.0 idle))
