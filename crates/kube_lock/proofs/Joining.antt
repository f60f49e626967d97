-- A view takes in another's.
use Rattle.std.proofs.Common.{◌≡◌, ◌≢◌, ℕ, zero, suc, ◌+◌, ◌%◌, ◌^◌, ◌<◌, List, [], ◌∷◌, ◌++◌, length, set, Bool, true, false, refl, sym, ap, subst, ◌∙◌, arith}
use Rattle.std.specs.Prelude.{Option, Some, None, IfSome}
use Rattle.std.specs.List.{AllByRecursion}
use mathlib.Core.Option.{some, some-injective, some-ne-none}
use mathlib.Core.List.{IsPrefix}
use lib.ListN.{get_elem?}
use Rattle.atomic_table.specs.Table.{State, Joins, opening as start}
use Rattle.atomic_table.proofs.Lists.{set_else}
use Rattle.kube_lock.specs.declared.view.View.{View}
use Rattle.kube_lock.specs.declared.view.Joined.{Joined}
use Rattle.kube_lock.specs.Rule.{IsRuled, Fits, AreOwn, IsKept}
use Rattle.std.specs.Prelude.{◌==◌, nat_le, if◌then◌else◌}
use Rattle.kube_lock.specs.Views.{longer, kept_of, lesser, joined_in, spent, root}
use Rattle.kube_lock.proofs.Lists.{all_of, all_append, some_of, one_at, pick, picks_first, picks_second, once_none}
use Rattle.kube_lock.proofs.Standing.{each_set, none_held}

pub longer_begins : {E : Type 0} (xs ys log : List E) → IsPrefix xs log → IsPrefix ys log → IsPrefix (longer xs ys) log
longer_begins xs ys log p q = by_test (nat_le (length ys) (length xs))
  where
    by_test : (b : Bool) → IsPrefix (if b then xs else ys) log
    by_test true = p
    by_test false = q

kept_own : {E : Type 0} (number : E → ℕ) (o : Option ℕ) (own log : List E) → AreOwn number o own log → AllByRecursion (IsKept number log) (kept_of o own)
kept_own number None own log h = tt
kept_own number (Some n) own log h = (h, tt)

kept_all : {E : Type 0} (F : ℕ → Type 0) (o : Option ℕ) (own : List E) → IfSome o F → AllByRecursion (λ (k : Joined E). F k.number) (kept_of o own)
kept_all F None own h = tt
kept_all F (Some n) own h = (h, tt)

-- what holds of both counts holds of the lesser
lesser_has : (a b : Option ℕ) (F : ℕ → Type 0) → IfSome a F → IfSome b F → IfSome (lesser a b) F
lesser_has None b F h k = k
lesser_has (Some n) None F h k = h
lesser_has (Some n) (Some m) F h k = by_test (nat_le n m)
  where
    by_test : (b : Bool) → F (if b then n else m)
    by_test true = h
    by_test false = k

module _ {C E P : Type 0} (entries : C → List E) (number : E → ℕ) (opened : C → P) (Legal : P → List E → Type 0) (opening : P) where
  abbrev Rule : State (Option C) (View E P) → Type 0
  Rule = IsRuled entries number opened Legal opening

  pub joins : (id : ℕ) (v : View E P) (other : ℕ) (w : View E P) → v.ticket ≡ None → v.holds ≡ false → w.ticket ≡ None → w.holds ≡ false → Joins Rule id v other w (joined_in v w) spent
  joins id v other w free idle free_too idle_too s good at ne there =
      let both : View E P = joined_in v w in
      let at_other : get_elem? s.views other ≡ some w = sym (set_else s.views id other both ne) ∙ there in
      let mine = good.each id v at in
      let theirs = good.each other w at_other in
      let place : ℕ → ℕ = λ n. pick (good.seat_of n == other) id (good.seat_of n) in
      let counter : ℕ = pick (good.counter == other) id good.counter in
      let from : (n : ℕ) → good.seat_of n ≡ other → place n ≡ id = (λ n e. picks_first (good.seat_of n) other id (good.seat_of n) e) in
      let stays : (n j : ℕ) → good.seat_of n ≡ j → j ≢ other → place n ≡ j = (λ n j e apart. picks_second (good.seat_of n) other id (good.seat_of n) (λ same. apart (sym e ∙ same)) ∙ e) in
      let apart : id ≢ other = (λ e. ne (sym e)) in
      -- a number that waits is at neither seat
      let waits : (k n : ℕ) → get_elem? good.queue k ≡ some n → (good.seat_of n ≢ id) × (good.seat_of n ≢ other) =
      (λ k n e. let a = good.held k n e in (
        (λ same.
            let u : a.1 ≡ v = one_at s.views id a.1 v (subst (λ (i : ℕ). get_elem? s.views i ≡ some a.1) same a.2) at in
            let tick : a.1.ticket ≡ Some ((good.served + k) % 2 ^ 64) = a.4 in
            absurd (cc (ap (λ (x : View E P). x.ticket) u, tick, free))),
        (λ same.
            let u : a.1 ≡ w = one_at s.views other a.1 w (subst (λ (i : ℕ). get_elem? s.views i ≡ some a.1) same a.2) at_other in
            let tick : a.1.ticket ≡ Some ((good.served + k) % 2 ^ 64) = a.4 in
            absurd (cc (ap (λ (x : View E P). x.ticket) u, tick, free_too))),
      )) in
      record {
        log = good.log;
        queue = good.queue;
        served = good.served;
        given = good.given;
        counter = counter;
        seat_of = place;
        legal = good.legal;
        words = good.words;
        small = good.small;
        held = λ k n e.
            let a = good.held k n e in
            let far = waits k n e in (
              a.0,
              a.1,
              subst (λ (j : ℕ). get_elem? (set (set s.views id both) other spent) j ≡ some a.1) (sym (stays n (good.seat_of n) refl far.1))
                  (set_else (set s.views id both) other (good.seat_of n) spent far.1 ∙ (set_else s.views id (good.seat_of n) both far.0 ∙ a.2)),
              a.3,
              a.4,
            );
        once = good.once;
        few = good.few;
        others = good.others;
        each = each_set (Fits number opening good.log good.queue good.served good.given counter place) (set s.views id both) other spent
            record { opens = tt; seen = (good.log, refl); fronts = tt; own = refl; joined = tt; here = tt; kept = tt; apart = tt; ticket = tt; holds = λ h. absurd cc; count = tt }
            (λ j u far e.
            each_set (λ i x. i ≢ other → Fits number opening good.log good.queue good.served good.given counter place i x) s.views id both
            (λ _. record {
              opens = mine.opens;
              seen = longer_begins v.seen w.seen good.log mine.seen theirs.seen;
              fronts = (mine.seen, (theirs.seen, all_append (λ front. IsPrefix front good.log) v.fronts w.fronts mine.fronts theirs.fronts));
              own = mine.own;
              joined = all_append (IsKept number good.log) v.joined _ mine.joined (all_append (IsKept number good.log) (kept_of w.number w.own) w.joined (kept_own number w.number w.own good.log theirs.own) theirs.joined);
              here = some_of (λ n. (n < good.given) × (good.seat_of n ≡ id)) (λ n. (n < good.given) × (place n ≡ id)) (λ n h. (h.0, stays n id h.1 apart)) v.number mine.here;
              kept = all_append (λ (k : Joined E). (k.number < good.given) × (place k.number ≡ id)) v.joined _
                  (all_of (λ (k : Joined E). (k.number < good.given) × (good.seat_of k.number ≡ id)) (λ (k : Joined E). (k.number < good.given) × (place k.number ≡ id)) (λ k h. (h.0, stays k.number id h.1 apart)) v.joined mine.kept)
                  (all_append (λ (k : Joined E). (k.number < good.given) × (place k.number ≡ id)) (kept_of w.number w.own) w.joined
                  (kept_all (λ n. (n < good.given) × (place n ≡ id)) w.number w.own (some_of (λ n. (n < good.given) × (good.seat_of n ≡ other)) (λ n. (n < good.given) × (place n ≡ id)) (λ n h. (h.0, from n h.1)) w.number theirs.here))
                  (all_of (λ (k : Joined E). (k.number < good.given) × (good.seat_of k.number ≡ other)) (λ (k : Joined E). (k.number < good.given) × (place k.number ≡ id)) (λ k h. (h.0, from k.number h.1)) w.joined theirs.kept));
              apart = not_kept v.number mine.here mine.apart theirs.here theirs.kept;
              ticket = mine.ticket;
              holds = λ h. absurd (let yes : v.holds ≡ true = h in cc (yes, idle));
              count = lesser_has v.given w.given (λ c. (c ≡ good.given) × (counter ≡ id))
                  (some_of (λ c. (c ≡ good.given) × (good.counter ≡ id)) (λ c. (c ≡ good.given) × (counter ≡ id)) (λ c h. (h.0, picks_second good.counter other id good.counter (λ same. apart (sym h.1 ∙ same)) ∙ h.1)) v.given mine.count)
                  (some_of (λ c. (c ≡ good.given) × (good.counter ≡ other)) (λ c. (c ≡ good.given) × (counter ≡ id)) (λ c h. (h.0, picks_first good.counter other id good.counter h.1)) w.given theirs.count);
            })
            (λ i x not_mine at_x far_too.
            let f = good.each i x at_x in
            record {
              opens = f.opens;
              seen = f.seen;
              fronts = f.fronts;
              own = f.own;
              joined = f.joined;
              here = some_of (λ n. (n < good.given) × (good.seat_of n ≡ i)) (λ n. (n < good.given) × (place n ≡ i)) (λ n h. (h.0, stays n i h.1 far_too)) x.number f.here;
              kept = all_of (λ (k : Joined E). (k.number < good.given) × (good.seat_of k.number ≡ i)) (λ (k : Joined E). (k.number < good.given) × (place k.number ≡ i)) (λ k h. (h.0, stays k.number i h.1 far_too)) x.joined f.kept;
              apart = f.apart;
              ticket = f.ticket;
              holds = f.holds;
              count = some_of (λ c. (c ≡ good.given) × (good.counter ≡ i)) (λ c. (c ≡ good.given) × (counter ≡ i)) (λ c h. (h.0, picks_second good.counter other id good.counter (λ same. far_too (sym h.1 ∙ same)) ∙ h.1)) x.given f.count;
            })
            j u e far);
        home = λ none. good.home (none_held entries number opened Legal opening s.views id v both at idle (none_held entries number opened Legal opening (set s.views id both) other w spent there idle_too none));
      }
    where
      not_kept : (o : Option ℕ) → IfSome o (λ n. (n < good.given) × (good.seat_of n ≡ id)) → IfSome o (λ n. AllByRecursion (λ (k : Joined E). k.number ≢ n) v.joined)
          → IfSome w.number (λ n. (n < good.given) × (good.seat_of n ≡ other)) → AllByRecursion (λ (k : Joined E). (k.number < good.given) × (good.seat_of k.number ≡ other)) w.joined
          → IfSome o (λ n. AllByRecursion (λ (k : Joined E). k.number ≢ n) (v.joined ++ (kept_of w.number w.own ++ w.joined)))
      not_kept None h a t k = tt
      not_kept (Some n) h a t k =
          all_append (λ (k : Joined E). k.number ≢ n) v.joined _ a
          (all_append (λ (k : Joined E). k.number ≢ n) (kept_of w.number w.own) w.joined
          (kept_all (λ m. m ≢ n) w.number w.own (some_of (λ m. (m < good.given) × (good.seat_of m ≡ other)) (λ m. m ≢ n) (λ m x same. ne (sym x.1 ∙ (ap good.seat_of same ∙ h.1))) w.number t))
          (all_of (λ (k : Joined E). (k.number < good.given) × (good.seat_of k.number ≡ other)) (λ (k : Joined E). k.number ≢ n) (λ m x same. ne (sym x.1 ∙ (ap good.seat_of same ∙ h.1))) w.joined k))

  -- the first state
  pub begins : (c : C) → entries c ≡ [] → opened c ≡ opening → Legal opening [] → Rule (start (0 ∷ 0 ∷ 0 ∷ []) (Some c ∷ []) (root opening))
  begins c empty is legal = record {
    log = [];
    queue = [];
    served = 0;
    given = 0;
    counter = 0;
    seat_of = λ _. 0;
    legal = legal;
    words = refl;
    small = omega arith;
    held = λ k n e. absurd (some-ne-none n (sym e));
    once = once_none;
    few = omega arith;
    others = λ n le. refl;
    each = λ seat v e. first seat v e;
    home = λ none. (c, refl, empty, is);
  }
    where
      first : (seat : ℕ) (v : View E P) → get_elem? (root opening ∷ []) seat ≡ some v → Fits number opening [] [] 0 0 0 (λ _. 0) seat v
      first zero v e = subst (λ (x : View E P). Fits number opening [] [] 0 0 0 (λ _. 0) 0 x) (some-injective (root opening) v e)
          record { opens = refl; seen = ([], refl); fronts = tt; own = refl; joined = tt; here = tt; kept = tt; apart = tt; ticket = tt; holds = λ h. absurd cc; count = (refl, refl) }
      first (suc seat) v e = absurd (some-ne-none v (sym e))
