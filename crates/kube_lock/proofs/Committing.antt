-- What lies in the held slot becomes the history.
use Rattle.std.proofs.Common.{◌≡◌, ◌≢◌, ℕ, ◌+◌, ◌%◌, ◌^◌, ◌<◌, List, [], ◌∷◌, ◌++◌, length, true, refl, sym, ap, subst, ◌∙◌, arith, length-append}
use Rattle.std.specs.Prelude.{Option, Some, None}
use Rattle.std.specs.List.{AllByRecursion}
use mathlib.Core.Option.{some, none}
use mathlib.Core.List.{IsPrefix}
use lib.ListN.{get_elem?}
use Rattle.atomic_table.specs.Table.{State, Me, keeps, step, Allows}
use Rattle.kube_lock.specs.declared.view.View.{View}
use Rattle.kube_lock.specs.declared.view.Joined.{Joined}
use Rattle.kube_lock.specs.Rule.{IsRuled, Fits, AreOwn}
use Rattle.std.proofs.Common.{drop}
use Rattle.kube_lock.specs.Views.{grown}
use Rattle.kube_lock.specs.Steps.{Committed}
use Rattle.kube_lock.proofs.Fronts.{prefix_self}
use Rattle.kube_lock.proofs.Lists.{all_of, if_some}
use Rattle.kube_lock.proofs.Calls.{drop_front, with_one, calls_else, own_else, own_mine, kept_else}
use Rattle.kube_lock.proofs.Standing.{seat_is, is_below, one_served, one_holds, each_set, held_set}
use Rattle.kube_lock.proofs.Drawing.{Left}

module _ {C E P : Type 0} (entries : C → List E) (number : E → ℕ) (opened : C → P) (Legal : P → List E → Type 0) (opening : P) where
  abbrev Rule : State (Option C) (View E P) → Type 0
  Rule = IsRuled entries number opened Legal opening

  -- the core in the held slot, and z where there is none
  abbrev in_hand : C → List (ℕ × Option C) → C
  in_hand z [] = z
  in_hand z ((k, None) ∷ hs) = z
  in_hand z ((k, Some c) ∷ hs) = c

  commits_in : (s : State (Option C) (View E P)) (good : Rule s) (id : ℕ) (v : View E P) (c : C) (x : E) (n : ℕ) → get_elem? s.views id ≡ some v → v.holds ≡ true → v.number ≡ Some n → number x ≡ n
      → entries c ≡ v.seen ++ x ∷ [] → Legal opening (entries c) → length (entries c) < 2 ^ 64
      → Left entries number opened Legal opening s id ((0, Some c) ∷ []) 2 (λ k. (k + 1) % 2 ^ 64) (Committed entries (step 1 2 1 0 none) (v, (0, Some c) ∷ [])) ((good.served + length good.queue) % 2 ^ 64 ∷ good.served ∷ length good.log ∷ [])
  commits_in s good id v c x n at holds has by added legal short =
      let mine = good.each id v at in
      let m = mine.holds holds in
      let is : entries c ≡ good.log ++ x ∷ [] = added ∙ ap (λ xs. xs ++ x ∷ []) m.0 in
      let w : View E P = grown v (entries c) in
      let new_own : v.own ++ drop (length v.seen) (entries c) ≡ v.own ++ x ∷ [] = ap (λ ys. v.own ++ drop (length v.seen) ys) added ∙ ap (λ ys. v.own ++ ys) (drop_front v.seen (x ∷ [])) in
      let my_seat : good.seat_of n ≡ id = seat_is entries number opened Legal opening s good id v n at has in
      let count : (length good.log + 1) % 2 ^ 64 ≡ length (entries c) =
      (let a = ap length is in omega (arith, length-append good.log (x ∷ []))) in (
        w,
        keeps,
        tt,
        record {
          log = entries c;
          queue = good.queue;
          served = good.served;
          given = good.given;
          counter = good.counter;
          seat_of = good.seat_of;
          legal = legal;
          words = ap (λ (k : ℕ). (good.served + length good.queue) % 2 ^ 64 ∷ good.served ∷ k ∷ []) count;
          small = good.small;
          held = λ k q e. let a = good.held k q e in let b = held_set s.views id v w at refl refl (good.seat_of q) q ((good.served + k) % 2 ^ 64) (a.1, a.2, a.3, a.4) in (a.0, b.0, b.1, b.2, b.3);
          once = good.once;
          few = good.few;
          others = λ q le. calls_else number good.log (entries c) x n q is by (λ e. let b = is_below entries number opened Legal opening s good id v n at has in omega arith) ∙ good.others q le;
          each = each_set (Fits number opening (entries c) good.queue good.served good.given good.counter good.seat_of) s.views id w
              record {
                opens = mine.opens;
                seen = prefix_self (entries c);
                fronts = all_of (λ front. IsPrefix front good.log) (λ front. IsPrefix front (entries c)) (λ front p. with_one front good.log (entries c) x is p) v.fronts mine.fronts;
                own = subst (λ ys. AreOwn number v.number ys (entries c)) (sym new_own) (own_mine number v.number v.own good.log (entries c) x n has is by mine.own);
                joined = kept_else number v.joined good.log (entries c) x n is by (if_some (λ q. AllByRecursion (λ k. k.number ≢ q) v.joined) v.number n mine.apart has) mine.joined;
                here = mine.here;
                kept = mine.kept;
                apart = mine.apart;
                ticket = mine.ticket;
                holds = λ _. (refl, m.1);
                count = mine.count;
              }
              (λ j u apart e.
              let f = good.each j u e in
              record {
                opens = f.opens;
                seen = with_one u.seen good.log (entries c) x is f.seen;
                fronts = all_of (λ front. IsPrefix front good.log) (λ front. IsPrefix front (entries c)) (λ front p. with_one front good.log (entries c) x is p) u.fronts f.fronts;
                own = own_else number u.number u.own good.log (entries c) x n is by (λ q q_is same. apart (sym (seat_is entries number opened Legal opening s good j u q e q_is) ∙ (ap good.seat_of same ∙ my_seat))) f.own;
                joined = kept_else number u.joined good.log (entries c) x n is by
                    (all_of (λ (k : Joined E). (k.number < good.given) × (good.seat_of k.number ≡ j)) (λ (k : Joined E). k.number ≢ n) (λ k h same. apart (sym h.1 ∙ (ap good.seat_of same ∙ my_seat))) u.joined f.kept) f.joined;
                here = f.here;
                kept = f.kept;
                apart = f.apart;
                ticket = f.ticket;
                holds = λ yes. absurd (apart (one_served entries number opened Legal opening s good j id u v e at (f.holds yes).1 m.1));
                count = f.count;
              });
          home = λ none. absurd (one_holds entries number opened Legal opening s.views id v w at holds none);
        },
        (refl, λ d e. ap (λ h. grown v (entries (in_hand c h))) e),
      )

  commits : (id : ℕ) (v : View E P) (c : C) (x : E) (n : ℕ) (o : P) → v.holds ≡ true → v.number ≡ Some n → number x ≡ n → v.opening ≡ Some o → entries c ≡ v.seen ++ x ∷ [] → Legal o (entries c) → length (entries c) < 2 ^ 64
      → Allows Rule 1 id (v, (0, Some c) ∷ []) 2 (λ k. (k + 1) % 2 ^ 64) (Committed entries (step 1 2 1 0 none) (v, (0, Some c) ∷ []))
  commits id v c x n o holds has by opens added legal short s good deep at small =
      let same : o ≡ opening = if_some (λ o. o ≡ opening) v.opening o (good.each id v at).opens opens in
      subst (Left entries number opened Legal opening s id ((0, Some c) ∷ []) 2 (λ k. (k + 1) % 2 ^ 64) (Committed entries (step 1 2 1 0 none) (v, (0, Some c) ∷ []))) (sym good.words)
      (commits_in s good id v c x n at holds has by added (subst (λ (p : P). Legal p (entries c)) same legal) short)

  pub commits_at : (slots id : ℕ) (me : Me (Option C) (View E P)) (c : C) (x : E) (n : ℕ) (o : P) → slots ≡ 1 → me.1 ≡ (0, Some c) ∷ [] → me.0.holds ≡ true → me.0.number ≡ Some n → number x ≡ n → me.0.opening ≡ Some o
      → entries c ≡ me.0.seen ++ x ∷ [] → Legal o (entries c) → length (entries c) < 2 ^ 64
      → Allows Rule slots id me 2 (λ k. (k + 1) % 2 ^ 64) (Committed entries (step slots 2 1 0 none) me)
  commits_at slots id me c x n o one hand holds has by opens added legal short =
      subst (λ (k : ℕ). Allows Rule k id me 2 (λ q. (q + 1) % 2 ^ 64) (Committed entries (step k 2 1 0 none) me)) (sym one)
      (subst (λ (held : List (ℕ × Option C)). Allows Rule 1 id (me.0, held) 2 (λ q. (q + 1) % 2 ^ 64) (Committed entries (step 1 2 1 0 none) (me.0, held))) (sym hand)
      (commits id me.0 c x n o holds has by opens added legal short))
