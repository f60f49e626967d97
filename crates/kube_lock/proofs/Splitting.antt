-- A new seat is cut from a view.
use Rattle.std.proofs.Common.{◌≡◌, ◌≢◌, ⊎_elim, ℕ, ◌+◌, ◌%◌, ◌^◌, ◌<◌, List, [], ◌∷◌, ◌++◌, length, set, refl, sym, ap, subst, ◌∙◌, arith}
use Rattle.std.specs.Prelude.{Option, Some, IfSome}
use Rattle.std.specs.List.{AllByRecursion}
use mathlib.Core.Option.{some}
use lib.ListN.{get_elem?}
use Rattle.atomic_table.specs.Table.{State, Splits}
use Rattle.atomic_table.proofs.Lists.{set_else, at_longer}
use Rattle.kube_lock.specs.declared.view.View.{View}
use Rattle.kube_lock.specs.declared.view.Joined.{Joined}
use Rattle.kube_lock.specs.Rule.{IsRuled, Fits, NoneHold, AreOwn}
use Rattle.std.specs.Prelude.{◌==◌}
use Rattle.std.specs.Option.{option_map}
use Rattle.kube_lock.specs.Views.{counted, numbered, copied}
use Rattle.kube_lock.proofs.Lists.{all_of, if_some, some_of, one_at, at_snoc_place, set_at, pick, picks_first, picks_second, at_place}
use Rattle.kube_lock.proofs.Standing.{each_set, held_set}

module _ {C E P : Type 0} (entries : C → List E) (number : E → ℕ) (opened : C → P) (Legal : P → List E → Type 0) (opening : P) where
  abbrev Rule : State (Option C) (View E P) → Type 0
  Rule = IsRuled entries number opened Legal opening

  -- where none holds in longer views, none held in those before
  none_longer : (views : List (View E P)) (id : ℕ) (v w new : View E P) → get_elem? views id ≡ some v → w.holds ≡ v.holds → NoneHold (set views id w ++ new ∷ []) → NoneHold views
  none_longer views id v w new at same nobody j u e =
      at_place j id
      (λ here.
      let is : u ≡ v = one_at views id u v (subst (λ (i : ℕ). get_elem? views i ≡ some u) here e) at in
      ap (λ (x : View E P). x.holds) is ∙ (sym same ∙ nobody id w (at_longer (set views id w) (new ∷ []) id w (set_at views id v w at))))
      (λ apart. nobody j u (at_longer (set views id w) (new ∷ []) j u (set_else views id j w apart ∙ e)))

  -- a seat with the next number
  pub numbers : (id : ℕ) (v : View E P) (c : ℕ) → v.given ≡ Some c → c < 64 → Splits Rule id v (counted v) (numbered v)
  numbers id v c is small s good at =
      let mine = good.each id v at in
      let count = if_some (λ c. (c ≡ good.given) × (good.counter ≡ id)) v.given c mine.count is in
      let w : View E P = counted v in
      let new : View E P = numbered v in
      let views : List (View E P) = set s.views id w in
      let place : ℕ → ℕ = λ n. pick (n == good.given) (length views) (good.seat_of n) in
      let given : ℕ = good.given + 1 in
      let old_place : (n : ℕ) → n < good.given → place n ≡ good.seat_of n = (λ n lt. picks_second n good.given (length views) (good.seat_of n) (λ e. omega arith)) in
      let has : v.given ≡ Some good.given = is ∙ ap Some count.0 in
      record {
        log = good.log;
        queue = good.queue;
        served = good.served;
        given = given;
        counter = good.counter;
        seat_of = place;
        legal = good.legal;
        words = good.words;
        small = good.small;
        held = λ k n e.
            let a = good.held k n e in
            let b = held_set s.views id v w at refl refl (good.seat_of n) n ((good.served + k) % 2 ^ 64) (a.1, a.2, a.3, a.4) in
            ((let lt = a.0 in omega arith), b.0, subst (λ (j : ℕ). get_elem? (views ++ new ∷ []) j ≡ some b.0) (sym (old_place n a.0)) (at_longer views (new ∷ []) (good.seat_of n) b.0 b.1), b.2, b.3);
        once = good.once;
        few = (let e = count.0 in omega arith);
        others = λ n le. good.others n (omega arith);
        each = λ j u e. ⊎_elim
            (λ old. each_set (Fits number opening good.log good.queue good.served given good.counter place) s.views id w
            (record {
              opens = mine.opens;
              seen = mine.seen;
              fronts = mine.fronts;
              own = mine.own;
              joined = mine.joined;
              here = some_of (λ n. (n < good.given) × (good.seat_of n ≡ id)) (λ n. (n < given) × (place n ≡ id)) (λ n h. ((let lt = h.0 in omega arith), old_place n h.0 ∙ h.1)) v.number mine.here;
              kept = all_of (λ (k : Joined E). (k.number < good.given) × (good.seat_of k.number ≡ id)) (λ (k : Joined E). (k.number < given) × (place k.number ≡ id)) (λ k h. ((let lt = h.0 in omega arith), old_place k.number h.0 ∙ h.1)) v.joined mine.kept;
              apart = mine.apart;
              ticket = mine.ticket;
              holds = mine.holds;
              count = subst (λ (o : Option ℕ). IfSome (option_map (λ n. n + 1) o) (λ c. (c ≡ given) × (good.counter ≡ id))) (sym has) (refl, count.1);
            })
            (λ i x apart at_x. let f = good.each i x at_x in
            record {
              opens = f.opens;
              seen = f.seen;
              fronts = f.fronts;
              own = f.own;
              joined = f.joined;
              here = some_of (λ n. (n < good.given) × (good.seat_of n ≡ i)) (λ n. (n < given) × (place n ≡ i)) (λ n h. ((let lt = h.0 in omega arith), old_place n h.0 ∙ h.1)) x.number f.here;
              kept = all_of (λ (k : Joined E). (k.number < good.given) × (good.seat_of k.number ≡ i)) (λ (k : Joined E). (k.number < given) × (place k.number ≡ i)) (λ k h. ((let lt = h.0 in omega arith), old_place k.number h.0 ∙ h.1)) x.joined f.kept;
              apart = f.apart;
              ticket = f.ticket;
              holds = f.holds;
              count = some_of (λ c. (c ≡ good.given) × (good.counter ≡ i)) (λ c. (c ≡ given) × (good.counter ≡ i)) (λ c h. absurd (apart (sym h.1 ∙ count.1))) x.given f.count;
            })
            j u old)
            (λ (y : (j ≡ length views) × (new ≡ u)). subst (λ (z : ℕ × View E P). Fits number opening good.log good.queue good.served given good.counter place z.0 z.1) (λ i. (sym y.0 i, y.1 i))
            record {
              opens = mine.opens;
              seen = mine.seen;
              fronts = tt;
              own = subst (λ (o : Option ℕ). AreOwn number o [] good.log) (sym has) (good.others good.given (omega arith));
              joined = tt;
              here = subst (λ (o : Option ℕ). IfSome o (λ n. (n < given) × (place n ≡ length views))) (sym has) ((omega arith), picks_first good.given good.given (length views) (good.seat_of good.given) refl);
              kept = tt;
              apart = subst (λ (o : Option ℕ). IfSome o (λ n. AllByRecursion (λ (k : Joined E). k.number ≢ n) [])) (sym has) tt;
              ticket = tt;
              holds = λ h. absurd cc;
              count = tt;
            })
            (at_snoc_place views new u j e);
        home = λ none. good.home (none_longer s.views id v w new at refl none);
      }

  -- a seat without a number
  pub copies : (id : ℕ) (v : View E P) → Splits Rule id v v (copied v)
  copies id v s good at =
      let mine = good.each id v at in
      let new : View E P = copied v in
      let views : List (View E P) = set s.views id v in
      record {
        log = good.log;
        queue = good.queue;
        served = good.served;
        given = good.given;
        counter = good.counter;
        seat_of = good.seat_of;
        legal = good.legal;
        words = good.words;
        small = good.small;
        held = λ k n e.
            let a = good.held k n e in
            let b = held_set s.views id v v at refl refl (good.seat_of n) n ((good.served + k) % 2 ^ 64) (a.1, a.2, a.3, a.4) in
            (a.0, b.0, at_longer views (new ∷ []) (good.seat_of n) b.0 b.1, b.2, b.3);
        once = good.once;
        few = good.few;
        others = good.others;
        each = λ j u e. ⊎_elim
            (λ old. each_set (Fits number opening good.log good.queue good.served good.given good.counter good.seat_of) s.views id v mine (λ i x apart at_x. good.each i x at_x) j u old)
            (λ (y : (j ≡ length views) × (new ≡ u)). subst (λ (z : ℕ × View E P). Fits number opening good.log good.queue good.served good.given good.counter good.seat_of z.0 z.1) (λ i. (sym y.0 i, y.1 i))
            record { opens = mine.opens; seen = mine.seen; fronts = tt; own = refl; joined = tt; here = tt; kept = tt; apart = tt; ticket = tt; holds = λ h. absurd cc; count = tt })
            (at_snoc_place views new u j e);
        home = λ none. good.home (none_longer s.views id v v new at refl none);
      }
