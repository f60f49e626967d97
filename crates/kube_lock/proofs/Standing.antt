-- What the rule says of two seats: one alone holds the ticket served, and so the slot.
use Rattle.std.proofs.Common.{◌≡◌, ◌≢◌, ⊎_elim, ℕ, ◌+◌, ◌%◌, ◌^◌, ◌<◌, ◌≤◌, List, length, set, true, false, sym, ap, subst, ◌∙◌, arith}
use Rattle.std.specs.Prelude.{Option, Some}
use mathlib.Core.Option.{some}
use lib.ListN.{get_elem?}
use Rattle.atomic_table.specs.Table.{State}
use Rattle.atomic_table.proofs.Lists.{at_set, set_else}
use Rattle.kube_lock.specs.declared.view.View.{View}
use Rattle.kube_lock.specs.Rule.{IsRuled, NoneHold}
use Rattle.kube_lock.proofs.Lists.{if_some, set_at, at_below, one_at, few_below, same_turn, at_place}

module _ {C E P : Type 0} (entries : C → List E) (number : E → ℕ) (opened : C → P) (Legal : P → List E → Type 0) (opening : P) where
  abbrev Rule : State (Option C) (View E P) → Type 0
  Rule = IsRuled entries number opened Legal opening

  module _ (s : State (Option C) (View E P)) (good : Rule s) where
    pub waiting_few : length good.queue ≤ 64
    waiting_few = let l = few_below good.queue good.given good.once (λ k q e. (good.held k q e).0) in let f = good.few in omega arith

    -- a view that has the ticket served has the first number that waits
    pub first_waits : (seat : ℕ) (v : View E P) → get_elem? s.views seat ≡ some v → v.ticket ≡ Some good.served → (n : ℕ) × (v.number ≡ Some n) × (get_elem? good.queue 0 ≡ some n)
    first_waits seat v at has =
        let f = good.each seat v at in
        let t = if_some (λ t. (n : ℕ) × (k : ℕ) × (v.number ≡ Some n) × (get_elem? good.queue k ≡ some n) × (t ≡ (good.served + k) % 2 ^ 64)) v.ticket good.served f.ticket has in
        let few = waiting_few in
        let here = at_below good.queue t.1 t.0 t.3 in
        let zeroth : t.1 ≡ 0 = same_turn good.served t.1 good.small (omega arith) t.4 in
        (t.0, t.2, subst (λ (k : ℕ). get_elem? good.queue k ≡ some t.0) zeroth t.3)

    pub seat_is : (seat : ℕ) (v : View E P) (n : ℕ) → get_elem? s.views seat ≡ some v → v.number ≡ Some n → good.seat_of n ≡ seat
    seat_is seat v n at has = (if_some (λ m. (m < good.given) × (good.seat_of m ≡ seat)) v.number n (good.each seat v at).here has).1

    pub is_below : (seat : ℕ) (v : View E P) (n : ℕ) → get_elem? s.views seat ≡ some v → v.number ≡ Some n → n < good.given
    is_below seat v n at has = (if_some (λ m. (m < good.given) × (good.seat_of m ≡ seat)) v.number n (good.each seat v at).here has).0

    pub one_served : (i j : ℕ) (v u : View E P) → get_elem? s.views i ≡ some v → get_elem? s.views j ≡ some u → v.ticket ≡ Some good.served → u.ticket ≡ Some good.served → i ≡ j
    one_served i j v u at there has other =
        let a = first_waits i v at has in
        let b = first_waits j u there other in
        let n : a.0 ≡ b.0 = one_at good.queue 0 a.0 b.0 a.2 b.2 in
        sym (seat_is i v a.0 at a.1) ∙ (ap good.seat_of n ∙ seat_is j u b.0 there b.1)

  -- where none holds after a seat's view was set, none held before, if it didn't
  pub none_held : (views : List (View E P)) (id : ℕ) (v w : View E P) → get_elem? views id ≡ some v → v.holds ≡ false → NoneHold (set views id w) → NoneHold views
  none_held views id v w at idle none j u e =
      at_place j id
      (λ same. ap (λ (x : View E P). x.holds) (one_at views id u v (subst (λ (i : ℕ). get_elem? views i ≡ some u) same e) at) ∙ idle)
      (λ apart. none j u (set_else views id j w apart ∙ e))

  pub one_holds : (views : List (View E P)) (id : ℕ) (v w : View E P) → get_elem? views id ≡ some v → w.holds ≡ true → NoneHold (set views id w) → ⊥
  one_holds views id v w at holds none = let no : w.holds ≡ false = none id w (set_at views id v w at) in cc (holds, no)

-- what is said of each view is said of each where one was set
pub each_set : {X : Type 0} (F : ℕ → X → Type 0) (views : List X) (id : ℕ) (w : X) → F id w → ((j : ℕ) (u : X) → j ≢ id → get_elem? views j ≡ some u → F j u)
    → (j : ℕ) (u : X) → get_elem? (set views id w) j ≡ some u → F j u
each_set {X} F views id w mine others j u e =
    ⊎_elim
    (λ (x : (j ≡ id) × (w ≡ u)). subst (λ (y : ℕ × X). F y.0 y.1) (λ i. (sym x.0 i, x.1 i)) mine)
    (λ (x : (j ≢ id) × (get_elem? views j ≡ some u)). others j u x.0 x.1)
    (at_set views id j w u e)

-- a view with a number and a ticket is there where one was set with the same
pub held_set : {E P : Type 0} (views : List (View E P)) (id : ℕ) (v w : View E P) → get_elem? views id ≡ some v → w.number ≡ v.number → w.ticket ≡ v.ticket
    → (j n t : ℕ) → (u : View E P) × (get_elem? views j ≡ some u) × (u.number ≡ Some n) × (u.ticket ≡ Some t)
    → (u : View E P) × (get_elem? (set views id w) j ≡ some u) × (u.number ≡ Some n) × (u.ticket ≡ Some t)
held_set {E} {P} views id v w at number ticket j n t h =
    at_place j id
    (λ same. let is : h.0 ≡ v = one_at views id h.0 v (subst (λ (i : ℕ). get_elem? views i ≡ some h.0) same h.1) at in (
      w,
      subst (λ (i : ℕ). get_elem? (set views id w) i ≡ some w) (sym same) (set_at views id v w at),
      number ∙ (ap (λ (x : View E P). x.number) (sym is) ∙ h.2),
      ticket ∙ (ap (λ (x : View E P). x.ticket) (sym is) ∙ h.3),
    ))
    (λ apart. (h.0, set_else views id j w apart ∙ h.1, h.2, h.3))
