-- A list that is a sorted and stable rearrangement of another is `sorted_by` of it.
use Rattle.std.proofs.Common.{◌≡◌, ℕ, suc, ◌<◌, ◌≤◌, Bool, true, false, not, ◌&&◌, cond, List, [], ◌∷◌, map, length, get_or, if◌then◌else◌, refl, sym, ap, ◌∙◌, arith}
use Rattle.std.specs.Borrow.{Bor}
use Rattle.std.specs.Cmp.{IsStrictWeakOrder}
use Rattle.std.specs.Fn.{Mut, Called, ComparesAs}
use Rattle.std.specs.Ordering.{is_lt}
use Rattle.std.specs.declared.cmp.Ordering.{Ordering}
use Rattle.std.specs.List.{filter, AllByRecursion}
use Rattle.std.specs.List.Sorted.{IsSortedBy, IsStableBy, ties}
use Rattle.std.proofs.lemmas.Bool.{false≢true}
use Rattle.std.proofs.lemmas.List.Sorted.{answers_always, sorted_far}
use Rattle.kube_model.specs.Queue.{insert_by, sorted_by}
use Rattle.kube_model.proofs.Sorted.{Orders, IsSorted, sorted-sorted}

both-not : (a b : Bool) → (not a && not b) ≡ true → (a ≡ false) × (b ≡ false)
both-not true b h = absurd (false≢true h)
both-not false true h = absurd (false≢true h)
both-not false false h = (refl, refl)

neither : (a b : Bool) → a ≡ false → b ≡ false → (not a && not b) ≡ true
neither a b h k = λ i. not (h i) && not (k i)

module _ {A : Type 0} where
  -- of two elements that aren't both kept it makes no difference which stands first
  turned : (a b : Bool) (x y : A) (zs : List A) → (a ≡ true → b ≡ false) → cond b (y ∷ cond a (x ∷ zs) zs) (cond a (x ∷ zs) zs) ≡ cond a (x ∷ cond b (y ∷ zs) zs) (cond b (y ∷ zs) zs)
  turned true true x y zs h = absurd (false≢true (sym (h refl)))
  turned true false x y zs h = refl
  turned false true x y zs h = refl
  turned false false x y zs h = refl

  kept : (b : Bool) (x : A) (zs : List A) → b ≡ true → cond b (x ∷ zs) zs ≡ x ∷ zs
  kept b x zs h = ap (λ c. cond c (x ∷ zs) zs) h

  rests : (b : Bool) (x : A) (ys zs : List A) → cond b (x ∷ ys) ys ≡ cond b (x ∷ zs) zs → ys ≡ zs
  rests true x ys zs h = cc
  rests false x ys zs h = h

module _ {A : Type 0} (before : A → A → Bool) (o : IsStrictWeakOrder before) where
  orders : Orders before
  orders = record {
    one_way = o.one_way;
    between = λ a b c h k. go a b c h k (before a b) refl;
  }
    where
      go : (a b c : A) → before a c ≡ true → before b c ≡ false → (d : Bool) → before a b ≡ d → d ≡ true
      go a b c h k true e = refl
      go a b c h k false e = absurd (false≢true (sym (o.chain a b c e k) ∙ h))

  not-itself : (x : A) → before x x ≡ false
  not-itself x = go (before x x) refl
    where
      go : (b : Bool) → before x x ≡ b → b ≡ false
      go true e = sym e ∙ o.one_way x x e
      go false e = refl

  ties-itself : (x : A) → ties before x x ≡ true
  ties-itself x = neither (before x x) (before x x) (not-itself x) (not-itself x)

  -- What ties with one stays in its order.

  filter-insert : (x y : A) (ys : List A) → filter (ties before x) (insert_by before y ys) ≡ filter (ties before x) (y ∷ ys)
  filter-insert x y [] = refl
  filter-insert x y (z ∷ zs) = go (before z y) refl (filter-insert x y zs)
    where
      t : A → Bool
      t = ties before x

      apart : before z y ≡ true → t y ≡ true → (b : Bool) → t z ≡ b → b ≡ false
      apart e h true k =
          absurd (false≢true (sym (o.chain z x y (both-not (before x z) (before z x) k).1 (both-not (before x y) (before y x) h).0) ∙ e))
      apart e h false k = refl

      go : (b : Bool) → before z y ≡ b → filter t (insert_by before y zs) ≡ filter t (y ∷ zs) → filter t (if b then z ∷ insert_by before y zs else y ∷ z ∷ zs) ≡ filter t (y ∷ z ∷ zs)
      go true e r =
          ap (λ us. cond (t z) (z ∷ us) us) r ∙ turned (t y) (t z) y z (filter t zs) (λ h. apart e h (t z) refl)
      go false e r = refl

  filter-sorted : (x : A) (xs : List A) → filter (ties before x) (sorted_by before xs) ≡ filter (ties before x) xs
  filter-sorted x [] = refl
  filter-sorted x (y ∷ ys) =
      filter-insert x y (sorted_by before ys) ∙ ap (λ us. cond (ties before x y) (y ∷ us) us) (filter-sorted x ys)

  -- Of a sorted list what ties with each is all there is to know.

  all-behind : (x : A) (ys : List A) → ((j : ℕ) → j < length ys → before (get_or ys j x) x ≡ false) → AllByRecursion (λ y. before y x ≡ false) ys
  all-behind x [] h = tt
  all-behind x (y ∷ ys) h = (h 0 (omega arith), all-behind x ys (λ j l. h (suc j) (omega arith)))

  rising : (ys : List A) → ((i j : ℕ) (d : A) → i ≤ j → j < length ys → before (get_or ys j d) (get_or ys i d) ≡ false) → IsSorted before ys
  rising [] h = tt
  rising (y ∷ ys) h = (
    all-behind y ys (λ j l. h 0 (suc j) y (omega arith) (omega arith)),
    rising ys (λ i j d l k. h (suc i) (suc j) d (omega arith) (omega arith)),
  )

  -- none of these comes before x, and one of them ties with y
  not-before : (x y : A) (zs : List A) → AllByRecursion (λ z. before z x ≡ false) zs → (w : A) (ws : List A) → filter (ties before y) zs ≡ w ∷ ws → before y x ≡ false
  not-before x y [] h w ws e = absurd (cc)
  not-before x y (z ∷ zs) h w ws e = go (ties before y z) refl (not-before x y zs h.1 w ws) e
    where
      go : (b : Bool) → ties before y z ≡ b → (filter (ties before y) zs ≡ w ∷ ws → before y x ≡ false)
          → cond b (z ∷ filter (ties before y) zs) (filter (ties before y) zs) ≡ w ∷ ws → before y x ≡ false
      go true t r k = o.chain y z x (both-not (before y z) (before z y) t).0 h.0
      go false t r k = r k

  same-sorted : (ys zs : List A) → IsSorted before ys → IsSorted before zs → ((x : A) → filter (ties before x) ys ≡ filter (ties before x) zs) → ys ≡ zs
  same-sorted [] [] s u same = refl
  same-sorted [] (z ∷ zs) s u same = absurd (let e = same z ∙ kept (ties before z z) z (filter (ties before z) zs) (ties-itself z) in cc)
  same-sorted (y ∷ ys) [] s u same = absurd (let e = sym (same y) ∙ kept (ties before y y) y (filter (ties before y) ys) (ties-itself y) in cc)
  same-sorted (y ∷ ys) (z ∷ zs) s u same =
      let at_y = kept (ties before y y) y (filter (ties before y) ys) (ties-itself y) in
      let at_z = kept (ties before z z) z (filter (ties before z) zs) (ties-itself z) in
      let up = not-before z y (z ∷ zs) (not-itself z, u.0) y (filter (ties before y) ys) (sym (same y) ∙ at_y) in
      let down = not-before y z (y ∷ ys) (not-itself y, s.0) z (filter (ties before z) zs) (same z ∙ at_z) in
      let heads = sym at_y ∙ (same y ∙ kept (ties before y z) z (filter (ties before y) zs) (neither (before y z) (before z y) up down)) in
      let head : y ≡ z = cc in
      let tails : (x : A) → filter (ties before x) ys ≡ filter (ties before x) zs = λ x.
      rests (ties before x y) y (filter (ties before x) ys) (filter (ties before x) zs)
      (same x ∙ ap (λ v. cond (ties before x v) (v ∷ filter (ties before x) zs) (filter (ties before x) zs)) (sym head)) in
      ap (λ v. v ∷ ys) head ∙ ap (λ us. z ∷ us) (same-sorted ys zs s.1 u.1 tails)

  pub stable-is-sorted_by : (xs ys : List A) → IsSortedBy before ys → IsStableBy before xs ys → ys ≡ sorted_by before xs
  stable-is-sorted_by xs ys up stable =
      same-sorted ys (sorted_by before xs) (rising ys (sorted_far before o ys up)) (sorted-sorted before orders xs)
      (λ x. stable x ∙ sym (filter-sorted x xs))

-- sorted by what is seen of each
module _ {A B : Type 0} (f : A → B) (before : B → B → Bool) where
  insert-seen : (x : A) (ys : List A) → map f (insert_by (λ a b. before (f a) (f b)) x ys) ≡ insert_by before (f x) (map f ys)
  insert-seen x [] = refl
  insert-seen x (y ∷ ys) = go (before (f y) (f x)) (insert-seen x ys)
    where
      go : (b : Bool) → map f (insert_by (λ a c. before (f a) (f c)) x ys) ≡ insert_by before (f x) (map f ys)
          → map f (if b then y ∷ insert_by (λ a c. before (f a) (f c)) x ys else x ∷ y ∷ ys) ≡ (if b then f y ∷ insert_by before (f x) (map f ys) else f x ∷ f y ∷ map f ys)
      go true e = ap (λ zs. f y ∷ zs) e
      go false e = refl

  sorted-seen : (xs : List A) → map f (sorted_by (λ a b. before (f a) (f b)) xs) ≡ sorted_by before (map f xs)
  sorted-seen [] = refl
  sorted-seen (x ∷ xs) = insert-seen x (sorted_by (λ a b. before (f a) (f b)) xs) ∙ ap (insert_by before (f x)) (sorted-seen xs)

  -- from the clauses `sorted` and `stable` of `sort_by`, where each call compares what is seen of the two elements
  pub sorted_by-from_sort_by : {F : Type 0} {g : Mut F (Bor A × (Bor A × Unit {0})) Ordering} {h : F} → IsStrictWeakOrder (λ a b. before (f a) (f b)) → (xs ys : List A)
      → ((lt : A → A → Bool) → IsStrictWeakOrder lt → ComparesAs g lt h → IsSortedBy lt ys)
      → ((lt : A → A → Bool) → IsStrictWeakOrder lt → ComparesAs g lt h → IsStableBy lt xs ys)
      → ((k : F) (a : Bor A × (Bor A × Unit {0})) (r : Ordering) (k' : F) → Called g k a r k' → is_lt r ≡ before (f a.0.now) (f a.1.0.now))
      → map f ys ≡ sorted_by before (map f xs)
  sorted_by-from_sort_by {g = g} {h = h} o xs ys up stable calls =
      let lt : A → A → Bool = λ a b. before (f a) (f b) in
      let compares = answers_always g (λ a r. is_lt r ≡ lt a.0.now a.1.0.now) h calls in
      ap (map f) (stable-is-sorted_by lt o xs ys (up lt o compares) (stable lt o compares)) ∙ sorted-seen xs
