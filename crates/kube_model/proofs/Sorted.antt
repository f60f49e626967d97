-- Sorted lists, and lists in which each element goes before all behind it.
use Rattle.std.proofs.Common.{◌≡◌, suc, Bool, true, false, ◌||◌, List, [], ◌∷◌, ◌++◌, length, if◌then◌else◌, cond, refl, sym, ap, ◌∙◌}
use Rattle.std.specs.List.{filter, list_any, AllByRecursion}
use Rattle.std.proofs.lemmas.Bool.{false≢true}
use Rattle.kube_model.specs.Queue.{insert_by, sorted_by}
use Rattle.kube_model.proofs.Alls.{all-append, all-filter}

-- a test of pairs that orders: not both ways, and what is before one is before all that isn't before that one
pub record Orders {A : Type 0} (before : A → A → Bool) : Type 0 where
  pub one_way : (a b : A) → before a b ≡ true → before b a ≡ false
  pub between : (a b c : A) → before a c ≡ true → before b c ≡ false → before a b ≡ true

module _ {A : Type 0} (before : A → A → Bool) where
  -- each stands before none that is before it
  abbrev pub IsSorted : List A → Type 0
  IsSorted [] = Unit {0}
  IsSorted (x ∷ xs) = AllByRecursion (λ y. before y x ≡ false) xs × IsSorted xs

  -- each goes before all behind it
  abbrev pub IsInOrder : List A → Type 0
  IsInOrder [] = Unit {0}
  IsInOrder (x ∷ xs) = AllByRecursion (λ y. before x y ≡ true) xs × IsInOrder xs

  pub all-insert : (P : A → Type 0) (x : A) (ys : List A) → P x → AllByRecursion P ys → AllByRecursion P (insert_by before x ys)
  all-insert P x [] p h = (p, tt)
  all-insert P x (y ∷ ys) p h = go (before y x) (all-insert P x ys p h.1)
    where
      go : (b : Bool) → AllByRecursion P (insert_by before x ys) → AllByRecursion P (if b then y ∷ insert_by before x ys else x ∷ y ∷ ys)
      go true r = (h.0, r)
      go false r = (p, h)

  pub all-sorted : (P : A → Type 0) (xs : List A) → AllByRecursion P xs → AllByRecursion P (sorted_by before xs)
  all-sorted P [] h = tt
  all-sorted P (x ∷ xs) h = all-insert P x (sorted_by before xs) h.0 (all-sorted P xs h.1)

  -- a sorted list has what the list has
  pub any-insert : (p : A → Bool) (x : A) (ys : List A) → list_any p (insert_by before x ys) ≡ p x || list_any p ys
  any-insert p x [] = refl
  any-insert p x (y ∷ ys) = go (before y x) (any-insert p x ys)
    where
      swap : (a b c : Bool) → a || (b || c) ≡ b || (a || c)
      swap true true c = refl
      swap true false c = refl
      swap false true c = refl
      swap false false c = refl

      go : (b : Bool) → list_any p (insert_by before x ys) ≡ p x || list_any p ys → list_any p (if b then y ∷ insert_by before x ys else x ∷ y ∷ ys) ≡ p x || (p y || list_any p ys)
      go true e = ap (λ c. p y || c) e ∙ swap (p y) (p x) (list_any p ys)
      go false e = refl

  pub any-sorted : (p : A → Bool) (xs : List A) → list_any p (sorted_by before xs) ≡ list_any p xs
  any-sorted p [] = refl
  any-sorted p (x ∷ xs) = any-insert p x (sorted_by before xs) ∙ ap (λ c. p x || c) (any-sorted p xs)

  length-insert : (x : A) (ys : List A) → length (insert_by before x ys) ≡ suc (length ys)
  length-insert x [] = refl
  length-insert x (y ∷ ys) = go (before y x) (length-insert x ys)
    where
      go : (b : Bool) → length (insert_by before x ys) ≡ suc (length ys) → length (if b then y ∷ insert_by before x ys else x ∷ y ∷ ys) ≡ suc (suc (length ys))
      go true r = ap suc r
      go false r = refl

  pub length-sorted : (xs : List A) → length (sorted_by before xs) ≡ length xs
  length-sorted [] = refl
  length-sorted (x ∷ xs) = length-insert x (sorted_by before xs) ∙ ap suc (length-sorted xs)

  pub order-filter : (p : A → Bool) (xs : List A) → IsInOrder xs → IsInOrder (filter p xs)
  order-filter p [] h = tt
  order-filter p (x ∷ xs) h = go (p x) (order-filter p xs h.1)
    where
      go : (b : Bool) → IsInOrder (filter p xs) → IsInOrder (cond b (x ∷ filter p xs) (filter p xs))
      go true r = (all-filter (λ y. before x y ≡ true) p xs h.0, r)
      go false r = r

  pub order-append : (xs ys : List A) → IsInOrder xs → IsInOrder ys → AllByRecursion (λ x. AllByRecursion (λ y. before x y ≡ true) ys) xs → IsInOrder (xs ++ ys)
  order-append [] ys h k a = k
  order-append (x ∷ xs) ys h k a = (all-append (λ y. before x y ≡ true) xs ys h.0 a.0, order-append xs ys h.1 k a.1)

module _ {A : Type 0} (before : A → A → Bool) (orders : Orders before) where
  -- what isn't before y isn't before x, which y isn't before
  all-beyond : (x y : A) → before y x ≡ false → (zs : List A) → AllByRecursion (λ z. before z y ≡ false) zs → AllByRecursion (λ z. before z x ≡ false) zs
  all-beyond x y h [] k = tt
  all-beyond x y h (z ∷ zs) k = (go (before z x) refl, all-beyond x y h zs k.1)
    where
      go : (b : Bool) → before z x ≡ b → b ≡ false
      go true e = absurd (false≢true (sym k.0 ∙ orders.between z y x e h))
      go false e = refl

  sorted-insert : (x : A) (ys : List A) → IsSorted before ys → IsSorted before (insert_by before x ys)
  sorted-insert x [] s = (tt, tt)
  sorted-insert x (y ∷ ys) s = go (before y x) refl (sorted-insert x ys s.1)
    where
      go : (b : Bool) → before y x ≡ b → IsSorted before (insert_by before x ys) → IsSorted before (if b then y ∷ insert_by before x ys else x ∷ y ∷ ys)
      go true e r = (all-insert before (λ z. before z y ≡ false) x ys (orders.one_way y x e) s.0, r)
      go false e r = ((e, all-beyond x y e ys s.0), s)

  pub sorted-sorted : (xs : List A) → IsSorted before (sorted_by before xs)
  sorted-sorted [] = tt
  sorted-sorted (x ∷ xs) = sorted-insert x (sorted_by before xs) (sorted-sorted xs)

  pub insert-first : (x : A) (ys : List A) → AllByRecursion (λ y. before x y ≡ true) ys → insert_by before x ys ≡ x ∷ ys
  insert-first x [] h = refl
  insert-first x (y ∷ ys) h = ap (λ b. if b then y ∷ insert_by before x ys else x ∷ y ∷ ys) (orders.one_way x y h.0)
