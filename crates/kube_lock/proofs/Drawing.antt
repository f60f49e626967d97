-- A ticket is drawn.
use Rattle.std.proofs.Common.{◌≡◌, ◌≢◌, ⊎_elim, ℕ, ◌+◌, ◌%◌, ◌^◌, ◌<◌, List, [], ◌∷◌, ◌++◌, length, set, true, false, refl, sym, ap, subst, ◌∙◌, slice_index, slice_set, length-append}
use Rattle.std.specs.Prelude.{Option, Some, None, IfSome}
use mathlib.Core.Option.{some, none}
use lib.ListN.{get_elem?}
use Rattle.atomic_table.specs.Table.{State, Me, Act, keeps, Valid, carried_after, homes_after, step, Allows}
use Rattle.atomic_table.proofs.Lists.{at_set, set_else, at_longer, at_last}
use Rattle.kube_lock.specs.declared.view.View.{View}
use Rattle.kube_lock.specs.Views.{with_ticket}
use Rattle.kube_lock.specs.Rule.{IsRuled, Fits}
use Rattle.kube_lock.specs.Steps.{Drew}
use Rattle.kube_lock.proofs.Lists.{at_snoc_place, set_at, one_at, distinct_snoc, next_turn}
use Rattle.kube_lock.proofs.Standing.{seat_is, is_below, none_held}

module _ {C E P : Type 0} (entries : C → List E) (number : E → ℕ) (opened : C → P) (Legal : P → List E → Type 0) (opening : P) where
  abbrev Rule : State (Option C) (View E P) → Type 0
  Rule = IsRuled entries number opened Legal opening

  -- what a step of the word i leaves, and tells, where the words are these
  abbrev pub Left : State (Option C) (View E P) → ℕ → List (ℕ × Option C) → ℕ → (ℕ → ℕ) → (ℕ → Me (Option C) (View E P) → Type 0) → List ℕ → Type 0
  Left s id held i f then words = (w : View E P) × (a : Act (Option C)) × Valid s.homes held a
      × Rule record { words = slice_set words i (f (slice_index words i)); homes = homes_after s.homes held a; views = slice_set s.views id w }
      × then (slice_index words i) (w, carried_after held a)

  draws_in : (s : State (Option C) (View E P)) (good : Rule s) (id : ℕ) (v : View E P) (n : ℕ) → get_elem? s.views id ≡ some v → v.number ≡ Some n → v.ticket ≡ None → v.holds ≡ false
      → Left s id [] 0 (λ k. (k + 1) % 2 ^ 64) (Drew (step 1 0 1 0 none) (v, [])) ((good.served + length good.queue) % 2 ^ 64 ∷ good.served ∷ length good.log ∷ [])
  draws_in s good id v n at has free idle =
      let t : ℕ = (good.served + length good.queue) % 2 ^ 64 in
      let w : View E P = with_ticket v t in
      let queue : List ℕ = good.queue ++ n ∷ [] in
      let mine = good.each id v at in
      let my_seat : good.seat_of n ≡ id = seat_is entries number opened Legal opening s good id v n at has in
      -- a number that waits is at another seat
      let elsewhere : (k m : ℕ) → (e : get_elem? good.queue k ≡ some m) → good.seat_of m ≢ id =
      (λ k m e same. let h = good.held k m e in
      let u : h.1 ≡ v = one_at s.views id h.1 v (subst (λ (i : ℕ). get_elem? s.views i ≡ some h.1) same h.2) at in
      let tick : h.1.ticket ≡ Some ((good.served + k) % 2 ^ 64) = h.4 in
      absurd (cc (ap (λ (x : View E P). x.ticket) u, tick, free))) in (
        w,
        keeps,
        tt,
        record {
          log = good.log;
          queue = queue;
          served = good.served;
          given = good.given;
          counter = good.counter;
          seat_of = good.seat_of;
          legal = good.legal;
          words = ap (λ (k : ℕ). k ∷ good.served ∷ length good.log ∷ []) (next_turn good.served (length good.queue) ∙ ap (λ (k : ℕ). (good.served + k) % 2 ^ 64) (sym (length-append good.queue (n ∷ []))));
          small = good.small;
          held = λ k m e. ⊎_elim
              (λ (old : get_elem? good.queue k ≡ some m).
              let h = good.held k m old in (h.0, h.1, set_else s.views id (good.seat_of m) w (elsewhere k m old) ∙ h.2, h.3, h.4))
              (λ (new : (k ≡ length good.queue) × (n ≡ m)). (
                subst (λ (q : ℕ). q < good.given) new.1 (is_below entries number opened Legal opening s good id v n at has),
                w,
                subst (λ (i : ℕ). get_elem? (set s.views id w) i ≡ some w) (sym (ap good.seat_of (sym new.1) ∙ my_seat)) (set_at s.views id v w at),
                has ∙ ap Some new.1,
                ap (λ (q : ℕ). Some ((good.served + q) % 2 ^ 64)) (sym new.0),
              ))
              (at_snoc_place good.queue n m k e);
          once = distinct_snoc good.queue n good.once (λ k e. elsewhere k n e my_seat);
          few = good.few;
          others = good.others;
          each = λ j u e. ⊎_elim
              (λ (x : (j ≡ id) × (w ≡ u)). subst (λ (y : ℕ × View E P). Fits number opening good.log queue good.served good.given good.counter good.seat_of y.0 y.1) (λ i. (sym x.0 i, x.1 i))
              record {
                opens = mine.opens;
                seen = mine.seen;
                fronts = mine.fronts;
                own = mine.own;
                joined = mine.joined;
                here = mine.here;
                kept = mine.kept;
                apart = mine.apart;
                ticket = (n, length good.queue, has, at_last good.queue n (length good.queue) refl, refl);
                holds = λ h. absurd (let no : v.holds ≡ true = h in cc (no, idle));
                count = mine.count;
              })
              (λ (x : (j ≢ id) × (get_elem? s.views j ≡ some u)).
              let f = good.each j u x.1 in
              record {
                opens = f.opens;
                seen = f.seen;
                fronts = f.fronts;
                own = f.own;
                joined = f.joined;
                here = f.here;
                kept = f.kept;
                apart = f.apart;
                ticket = longer_queue u.ticket u.number f.ticket;
                holds = f.holds;
                count = f.count;
              })
              (at_set s.views id j w u e);
          home = λ none. good.home (none_held entries number opened Legal opening s.views id v w at idle none);
        },
        refl,
      )
    where
      longer_queue : (ticket has_number : Option ℕ) → IfSome ticket (λ t. (m : ℕ) × (k : ℕ) × (has_number ≡ Some m) × (get_elem? good.queue k ≡ some m) × (t ≡ (good.served + k) % 2 ^ 64))
          → IfSome ticket (λ t. (m : ℕ) × (k : ℕ) × (has_number ≡ Some m) × (get_elem? (good.queue ++ n ∷ []) k ≡ some m) × (t ≡ (good.served + k) % 2 ^ 64))
      longer_queue None number h = tt
      longer_queue (Some t) number h = (h.0, h.1, h.2, at_longer good.queue (n ∷ []) h.1 h.0 h.3, h.4)

  draws : (id : ℕ) (v : View E P) (n : ℕ) → v.number ≡ Some n → v.ticket ≡ None → v.holds ≡ false → Allows Rule 1 id (v, []) 0 (λ k. (k + 1) % 2 ^ 64) (Drew (step 1 0 1 0 none) (v, []))
  draws id v n has free idle s good deep at small =
      subst (Left s id [] 0 (λ k. (k + 1) % 2 ^ 64) (Drew (step 1 0 1 0 none) (v, []))) (sym good.words) (draws_in s good id v n at has free idle)

  pub draws_at : (slots id : ℕ) (me : Me (Option C) (View E P)) (n : ℕ) → slots ≡ 1 → me.1 ≡ [] → me.0.number ≡ Some n → me.0.ticket ≡ None → me.0.holds ≡ false
      → Allows Rule slots id me 0 (λ k. (k + 1) % 2 ^ 64) (Drew (step slots 0 1 0 none) me)
  draws_at slots id me n one empty has free idle =
      subst (λ (k : ℕ). Allows Rule k id me 0 (λ q. (q + 1) % 2 ^ 64) (Drew (step k 0 1 0 none) me)) (sym one)
      (subst (λ (held : List (ℕ × Option C)). Allows Rule 1 id (me.0, held) 0 (λ q. (q + 1) % 2 ^ 64) (Drew (step 1 0 1 0 none) (me.0, held))) (sym empty)
      (draws id me.0 n has free idle))
