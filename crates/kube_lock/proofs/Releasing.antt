-- The slot is given back, and the next ticket served.
use Rattle.std.proofs.Common.{◌≡◌, ◌≢◌, ℕ, zero, suc, ◌+◌, ◌%◌, ◌^◌, ◌<◌, List, [], ◌∷◌, length, true, refl, sym, ap, subst, ◌∙◌, arith}
use Rattle.std.specs.Prelude.{Option, Some}
use mathlib.Core.Option.{some, none}
use lib.ListN.{get_elem?}
use Rattle.atomic_table.specs.Table.{State, Me, gives, step, Allows}
use Rattle.atomic_table.proofs.Lists.{set_else, set_here}
use Rattle.kube_lock.specs.declared.view.View.{View}
use Rattle.kube_lock.specs.Rule.{IsRuled, Fits}
use Rattle.std.specs.List.{IsDistinct}
use Rattle.std.proofs.lemmas.Map.Keys.{IsDistinct-tail}
use Rattle.kube_lock.specs.Rule.{same}
use Rattle.kube_lock.specs.Views.{released}
use Rattle.kube_lock.specs.Steps.{Released}
use Rattle.kube_lock.proofs.Lists.{if_some, some_of, one_at, head_at, after_turn, at_below, same_turn}
use Rattle.kube_lock.proofs.Standing.{waiting_few, first_waits, seat_is, one_served, each_set}
use Rattle.kube_lock.proofs.Drawing.{Left}

module _ {C E P : Type 0} (entries : C → List E) (number : E → ℕ) (opened : C → P) (Legal : P → List E → Type 0) (opening : P) where
  abbrev Rule : State (Option C) (View E P) → Type 0
  Rule = IsRuled entries number opened Legal opening

  releases_in : (s : State (Option C) (View E P)) (good : Rule s) (id : ℕ) (v : View E P) (c : C) → length s.homes ≡ 1 → get_elem? s.views id ≡ some v → v.holds ≡ true → entries c ≡ v.seen → opened c ≡ opening
      → Left entries number opened Legal opening s id ((0, Some c) ∷ []) 1 (λ k. (k + 1) % 2 ^ 64) (Released (step 1 1 1 0 none) (v, (0, Some c) ∷ [])) ((good.served + length good.queue) % 2 ^ 64 ∷ good.served ∷ length good.log ∷ [])
  releases_in s good id v c deep at holds whole opens =
      let mine = good.each id v at in
      let m = mine.holds holds in
      let w : View E P = released v in
      let now : ℕ = (good.served + 1) % 2 ^ 64 in
      let first = first_waits entries number opened Legal opening s good id v at m.1 in
      let cut = head_at good.queue first.0 first.2 in
      let rest : List ℕ = cut.0 in
      let is : good.queue ≡ first.0 ∷ rest = cut.1 in
      let my_seat : good.seat_of first.0 ≡ id = seat_is entries number opened Legal opening s good id v first.0 at first.1 in
      let few = waiting_few entries number opened Legal opening s good in
      -- what waits behind is what waited one further
      let behind : (k q : ℕ) → get_elem? rest k ≡ some q → get_elem? good.queue (suc k) ≡ some q =
      (λ k q e. subst (λ (l : List ℕ). get_elem? l (suc k) ≡ some q) (sym is) e) in
      let total : (good.served + length good.queue) % 2 ^ 64 ≡ (now + length rest) % 2 ^ 64 =
      ap (λ (l : List ℕ). (good.served + length l) % 2 ^ 64) is ∙ sym (after_turn good.served (length rest)) in (
        w,
        gives,
        tt,
        record {
          log = good.log;
          queue = rest;
          served = now;
          given = good.given;
          counter = good.counter;
          seat_of = good.seat_of;
          legal = good.legal;
          words = ap (λ (k : ℕ). k ∷ now ∷ length good.log ∷ []) total;
          small = omega arith;
          held = λ k q e.
              let h = good.held (suc k) q (behind k q e) in
              let far : suc k < 2 ^ 64 = (let b = at_below good.queue (suc k) q (behind k q e) in omega arith) in
              let apart : good.seat_of q ≢ id =
              (λ there.
              let u : h.1 ≡ v = one_at s.views id h.1 v (subst (λ (i : ℕ). get_elem? s.views i ≡ some h.1) there h.2) at in
              let t : Some good.served ≡ Some ((good.served + suc k) % 2 ^ 64) = sym m.1 ∙ (ap (λ (x : View E P). x.ticket) (sym u) ∙ h.4) in
              let t' : good.served ≡ (good.served + suc k) % 2 ^ 64 = cc t in
              let zeroth = same_turn good.served (suc k) good.small far t' in absurd (omega arith)) in
              (h.0, h.1, set_else s.views id (good.seat_of q) w apart ∙ h.2, h.3, h.4 ∙ ap Some (sym (after_turn good.served k)));
          once = IsDistinct-tail same first.0 rest (subst (λ (l : List ℕ). IsDistinct same l) is good.once);
          few = good.few;
          others = good.others;
          each = each_set (Fits number opening good.log rest now good.given good.counter good.seat_of) s.views id w
              record {
                opens = mine.opens;
                seen = mine.seen;
                fronts = mine.fronts;
                own = mine.own;
                joined = mine.joined;
                here = mine.here;
                kept = mine.kept;
                apart = mine.apart;
                ticket = tt;
                holds = λ h. absurd cc;
                count = mine.count;
              }
              (λ j u apart e.
              let f = good.each j u e in
              record {
                opens = f.opens;
                seen = f.seen;
                fronts = f.fronts;
                own = f.own;
                joined = f.joined;
                here = f.here;
                kept = f.kept;
                apart = f.apart;
                ticket = some_of (λ t. (n : ℕ) × (k : ℕ) × (u.number ≡ Some n) × (get_elem? good.queue k ≡ some n) × (t ≡ (good.served + k) % 2 ^ 64)) (λ t. (n : ℕ) × (k : ℕ) × (u.number ≡ Some n) × (get_elem? rest k ≡ some n) × (t ≡ (now + k) % 2 ^ 64))
                    (λ t h. nearer t h.0 h.1 rest first.0 is h.3 (λ n_is. apart (sym (seat_is entries number opened Legal opening s good j u h.0 e h.2) ∙ (ap good.seat_of n_is ∙ my_seat))) u.number h.2 h.4)
                    u.ticket f.ticket;
                holds = λ yes. absurd (apart (one_served entries number opened Legal opening s good j id u v e at (f.holds yes).1 m.1));
                count = f.count;
              });
          home = λ _. (c, set_here s.homes 0 (some (Some c)) (omega arith), whole ∙ m.0, opens);
        },
        refl,
      )
    where
      nearer : (t n k : ℕ) (rest : List ℕ) (first : ℕ) → good.queue ≡ first ∷ rest → get_elem? good.queue k ≡ some n → (n ≡ first → ⊥) → (o : Option ℕ) → o ≡ Some n → t ≡ (good.served + k) % 2 ^ 64
          → (m : ℕ) × (k : ℕ) × (o ≡ Some m) × (get_elem? rest k ≡ some m) × (t ≡ ((good.served + 1) % 2 ^ 64 + k) % 2 ^ 64)
      nearer t n zero rest first is e apart o has ticket = absurd (apart (sym (one_at (first ∷ rest) 0 first n refl (subst (λ (l : List ℕ). get_elem? l 0 ≡ some n) is e))))
      nearer t n (suc k) rest first is e apart o has ticket = (n, k, has, subst (λ (l : List ℕ). get_elem? l (suc k) ≡ some n) is e, ticket ∙ sym (after_turn good.served k))

  releases : (id : ℕ) (v : View E P) (c : C) (o : P) → v.holds ≡ true → v.opening ≡ Some o → entries c ≡ v.seen → opened c ≡ o
      → Allows Rule 1 id (v, (0, Some c) ∷ []) 1 (λ k. (k + 1) % 2 ^ 64) (Released (step 1 1 1 0 none) (v, (0, Some c) ∷ []))
  releases id v c o holds opens same was s good deep at small =
      let is : o ≡ opening = if_some (λ o. o ≡ opening) v.opening o (good.each id v at).opens opens in
      subst (Left entries number opened Legal opening s id ((0, Some c) ∷ []) 1 (λ k. (k + 1) % 2 ^ 64) (Released (step 1 1 1 0 none) (v, (0, Some c) ∷ []))) (sym good.words)
      (releases_in s good id v c deep at holds same (was ∙ is))

  pub releases_at : (slots id : ℕ) (me : Me (Option C) (View E P)) (c : C) (o : P) → slots ≡ 1 → me.1 ≡ (0, Some c) ∷ [] → me.0.holds ≡ true → me.0.opening ≡ Some o → entries c ≡ me.0.seen → opened c ≡ o
      → Allows Rule slots id me 1 (λ k. (k + 1) % 2 ^ 64) (Released (step slots 1 1 0 none) me)
  releases_at slots id me c o one hand holds opens same was =
      subst (λ (k : ℕ). Allows Rule k id me 1 (λ q. (q + 1) % 2 ^ 64) (Released (step k 1 1 0 none) me)) (sym one)
      (subst (λ (held : List (ℕ × Option C)). Allows Rule 1 id (me.0, held) 1 (λ q. (q + 1) % 2 ^ 64) (Released (step 1 1 1 0 none) (me.0, held))) (sym hand)
      (releases id me.0 c o holds opens same was))
