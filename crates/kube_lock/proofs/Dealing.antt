-- The passes of a new lock.
use Rattle.std.proofs.Common.{◌≡◌, ℕ, zero, suc, List, [], ◌∷◌, ◌++◌, length, refl, ap, ◌∙◌}
use Rattle.std.specs.List.{AllByRecursion}
use Rattle.kube_lock.specs.Passes.{Locking, IsPassOf, dealt, dealt_all}
use Rattle.kube_lock.proofs.Lists.{all_append}

dealt_theirs : (E : Type 0) {P : Type 0} (lock : Locking P) (n : ℕ) → AllByRecursion (IsPassOf lock) (dealt {E = E} lock.table lock.opening n)
dealt_theirs E lock zero = tt
dealt_theirs E lock (suc n) = all_append (IsPassOf lock) (dealt lock.table lock.opening n) _ (dealt_theirs E lock n) (record { here = refl; opens = refl }, tt)

-- all are passes of the lock
pub all_theirs : (E : Type 0) {P : Type 0} (lock : Locking P) (n : ℕ) → AllByRecursion (IsPassOf lock) (dealt_all {E = E} lock.table lock.opening n)
all_theirs E lock zero = tt
all_theirs E lock (suc n) = all_append (IsPassOf lock) (dealt lock.table lock.opening n) _ (dealt_theirs E lock n) (record { here = refl; opens = refl }, tt)

length_snoc : {X : Type 0} (xs : List X) (x : X) → length (xs ++ x ∷ []) ≡ suc (length xs)
length_snoc [] x = refl
length_snoc (y ∷ ys) x = ap suc (length_snoc ys x)

dealt_length : (E : Type 0) {P : Type 0} (lock : Locking P) (n : ℕ) → length (dealt {E = E} lock.table lock.opening n) ≡ n
dealt_length E lock zero = refl
dealt_length E lock (suc n) = length_snoc (dealt {E = E} lock.table lock.opening n) _ ∙ ap suc (dealt_length E lock n)

-- they are as many as were asked for
pub all_length : (E : Type 0) {P : Type 0} (lock : Locking P) (n : ℕ) → length (dealt_all {E = E} lock.table lock.opening n) ≡ n
all_length E lock zero = refl
all_length E lock (suc n) = length_snoc (dealt {E = E} lock.table lock.opening n) _ ∙ ap suc (dealt_length E lock n)
