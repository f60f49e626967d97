-- The entries of one number, in a history with one entry more.
use Rattle.std.proofs.Common.{◌≡◌, ◌≢◌, ℕ, List, [], ◌∷◌, ◌++◌, length, Bool, true, false, refl, sym, ap, subst, ◌∙◌, arith, append-nil, drop}
use Rattle.std.specs.Prelude.{Option, Some, None, ◌==◌, if◌then◌else◌}
use Rattle.std.specs.List.{AllByRecursion}
use Rattle.std.proofs.lemmas.Bool.Decides.{nat_tests}
use Rattle.std.proofs.lemmas.List.Elements.{filter-append}
use mathlib.Core.List.{IsPrefix}
use Rattle.kube_lock.specs.Rule.{calls_of, AreOwn, IsKept}
use Rattle.kube_lock.specs.declared.view.Joined.{Joined}
use Rattle.atomic_table.specs.Seated.{TableId}
use Rattle.kube_lock.specs.declared.view.View.{View}
use Rattle.kube_lock.specs.Views.{grown, released}
use Rattle.kube_lock.specs.Passes.{Passing, passing}
use Rattle.kube_lock.proofs.Fronts.{prefix_trans}

pub drop_front : {E : Type 0} (xs ys : List E) → drop (length xs) (xs ++ ys) ≡ ys
drop_front [] ys = refl
drop_front (x ∷ xs) ys = drop_front xs ys

pub with_one : {E : Type 0} (front log new : List E) (x : E) → new ≡ log ++ x ∷ [] → IsPrefix front log → IsPrefix front new
with_one front log new x is p = prefix_trans front log new p (x ∷ [], sym is)

module _ {E : Type 0} (number : E → ℕ) where
  pub calls_mine : (log new : List E) (x : E) (n : ℕ) → new ≡ log ++ x ∷ [] → number x ≡ n → calls_of number n new ≡ calls_of number n log ++ x ∷ []
  calls_mine log new x n is by =
      let yes : (number x == n) ≡ true = grind (arith, nat_tests) in
      let one : calls_of number n (x ∷ []) ≡ x ∷ [] = ap (λ (b : Bool). if b then x ∷ [] else []) yes in
      ap (calls_of number n) is ∙ (filter-append (λ e. number e == n) log (x ∷ []) ∙ ap (λ ys. calls_of number n log ++ ys) one)

  pub calls_else : (log new : List E) (x : E) (n m : ℕ) → new ≡ log ++ x ∷ [] → number x ≡ n → m ≢ n → calls_of number m new ≡ calls_of number m log
  calls_else log new x n m is by apart =
      let no : (number x == m) ≡ false = grind (arith, nat_tests) in
      let none : calls_of number m (x ∷ []) ≡ [] = ap (λ (b : Bool). if b then x ∷ [] else []) no in
      ap (calls_of number m) is ∙ (filter-append (λ e. number e == m) log (x ∷ []) ∙ (ap (λ ys. calls_of number m log ++ ys) none ∙ append-nil (calls_of number m log)))

  pub own_else : (o : Option ℕ) (own log new : List E) (x : E) (n : ℕ) → new ≡ log ++ x ∷ [] → number x ≡ n → ((m : ℕ) → o ≡ Some m → m ≢ n) → AreOwn number o own log → AreOwn number o own new
  own_else None own log new x n is by apart h = h
  own_else (Some m) own log new x n is by apart h = calls_else log new x n m is by (apart m refl) ∙ h

  pub own_mine : (o : Option ℕ) (own log new : List E) (x : E) (n : ℕ) → o ≡ Some n → new ≡ log ++ x ∷ [] → number x ≡ n → AreOwn number o own log → AreOwn number o (own ++ x ∷ []) new
  own_mine None own log new x n has is by h = absurd cc
  own_mine (Some m) own log new x n has is by h =
      let same : m ≡ n = cc has in
      calls_mine log new x m is (by ∙ sym same) ∙ ap (λ ys. ys ++ x ∷ []) h

  pub kept_else : (ks : List (Joined E)) (log new : List E) (x : E) (n : ℕ) → new ≡ log ++ x ∷ [] → number x ≡ n → AllByRecursion (λ k. k.number ≢ n) ks → AllByRecursion (IsKept number log) ks → AllByRecursion (IsKept number new) ks
  kept_else [] log new x n is by apart h = tt
  kept_else (k ∷ ks) log new x n is by apart h = (calls_else log new x n k.number is by apart.0 ∙ h.0, kept_else ks log new x n is by apart.1 h.1)

-- a turn's view that has grown by an entry of its own: where it had seen all its own entries, it still has
pub commits_own : {E P : Type 0} (number : E → ℕ) (v w : View E P) (turn : Passing E P) (table : TableId) (n : ℕ) (log : List E) (x : E) → passing table n v ≡ turn → w ≡ released (grown v log)
    → log ≡ turn.seen ++ x ∷ [] → number x ≡ turn.number → calls_of number turn.number turn.seen ≡ turn.own → calls_of number n w.seen ≡ w.own
commits_own {E} {P} number v w turn table n log x is w_is grew by own =
    let one : log ≡ v.seen ++ x ∷ [] = grew ∙ ap (λ (p : Passing E P). p.seen ++ x ∷ []) (sym is) in
    let before : calls_of number n v.seen ≡ v.own = subst (λ (p : Passing E P). calls_of number p.number p.seen ≡ p.own) (sym is) own in
    let mine : calls_of number n log ≡ v.own ++ x ∷ [] = calls_mine number v.seen log x n one (by ∙ ap (λ (p : Passing E P). p.number) (sym is)) ∙ ap (λ ys. ys ++ x ∷ []) before in
    let new : v.own ++ drop (length v.seen) log ≡ v.own ++ x ∷ [] = ap (λ l. v.own ++ drop (length v.seen) l) one ∙ ap (λ l. v.own ++ l) (drop_front v.seen (x ∷ [])) in
    ap (λ (u : View E P). calls_of number n u.seen) w_is ∙ (mine ∙ (sym new ∙ ap (λ (u : View E P). u.own) (sym w_is)))
