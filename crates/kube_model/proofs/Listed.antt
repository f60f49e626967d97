-- The items of messages, of each at most one, in an order: there is one such list. Messages that are the same have the same item.
use Rattle.std.proofs.Common.{◌≡◌, Bool, true, false, not, ◌&&◌, ◌||◌, cond, List, [], ◌∷◌, Option, Some, None, if◌then◌else◌, is_some, refl, sym, ap, subst, ◌∙◌}
use Rattle.std.specs.List.{filter, filter_map, cons_option, list_any, AllByRecursion}
use Rattle.std.specs.Cmp.{IsEquivalence}
use Rattle.std.proofs.lemmas.Bool.{false≢true}
use Rattle.std.proofs.Math.Bool.{or-true}
use Rattle.kube_model.specs.Queue.{distinct, sorted_by, insert_by}
use Rattle.kube_model.proofs.Alls.{or-left, or-right, all-filter}
use Rattle.kube_model.proofs.Sorted.{Orders, IsSorted, IsInOrder, all-sorted, any-insert, any-sorted, order-filter, sorted-sorted, insert-first}

pub both : (b c : Bool) → (b ≡ true → c ≡ true) → (c ≡ true → b ≡ true) → b ≡ c
both true true f g = refl
both true false f g = sym (f refl)
both false true f g = g refl
both false false f g = refl

module _ {M X : Type 0} (same : M → M → Bool) (equiv : IsEquivalence same) (message : X → M) where
  pub alike : (a b x : M) → same a b ≡ true → same x a ≡ same x b
  alike a b x h = equiv.symm x a ∙ (equiv.congr a b x h ∙ equiv.symm b x)

  -- whether a message is among these
  abbrev pub is_in : List M → M → Bool
  is_in ms m = list_any (λ n. same n m) ms

  in-alike : (ms : List M) (m n : M) → same m n ≡ true → is_in ms m ≡ is_in ms n
  in-alike [] m n h = refl
  in-alike (x ∷ xs) m n h = ap (λ b. b || is_in xs m) (alike m n x h) ∙ ap (λ b. same x n || b) (in-alike xs m n h)

  -- whether one of these is of a message
  abbrev pub is_listed : List X → M → Bool
  is_listed xs m = list_any (λ x. same (message x) m) xs

  pub listed-alike : (xs : List X) (m n : M) → same m n ≡ true → is_listed xs m ≡ is_listed xs n
  listed-alike [] m n h = refl
  listed-alike (x ∷ xs) m n h = ap (λ b. b || is_listed xs m) (alike m n (message x) h) ∙ ap (λ b. same (message x) n || b) (listed-alike xs m n h)

  -- no message stands twice
  abbrev pub IsOnce : List X → Type 0
  IsOnce [] = Unit {0}
  IsOnce (x ∷ xs) = (is_listed xs (message x) ≡ false) × IsOnce xs

  -- the items are of their messages
  pub record Items (item : M → Option X) : Type 0 where
    pub own : (m : M) (x : X) → item m ≡ Some x → same (message x) m ≡ true
    pub alike : (m n : M) → same m n ≡ true → item m ≡ item n

  -- these are the items of all messages, in this order
  pub record Lists (before : X → X → Bool) (item : M → Option X) (xs : List X) : Type 0 where
    pub order : IsInOrder before xs
    pub own : AllByRecursion (λ x. item (message x) ≡ Some x) xs
    pub whole : (m : M) → is_some (item m) ≡ true → is_listed xs m ≡ true

  module _ (item : M → Option X) (items : Items item) where
    abbrev pub IsItem : X → Type 0
    IsItem x = item (message x) ≡ Some x

    pub is-item : (m : M) (x : X) → item m ≡ Some x → IsItem x
    is-item m x h = items.alike (message x) m (items.own m x h) ∙ h

    -- a message has one item
    pub one-item : (m : M) (x y : X) → item m ≡ Some x → IsItem y → same (message y) m ≡ true → y ≡ x
    one-item m x y h k s = let e : Some y ≡ Some x = sym k ∙ (items.alike (message y) m s ∙ h) in cc

    abbrev pub items_of : List M → List X
    items_of ms = filter_map item (distinct same ms)

    -- none is of a message that is none of these
    none-listed : (ms : List M) (m : M) → is_in ms m ≡ false → is_listed (items_of ms) m ≡ false
    none-listed [] m h = refl
    none-listed (x ∷ xs) m h =
        go (is_in xs x) (item x) refl (or-left (same x m) (is_in xs m) h) (none-listed xs m (or-right (same x m) (is_in xs m) h))
      where
        go : (b : Bool) (o : Option X) → item x ≡ o → same x m ≡ false → is_listed (items_of xs) m ≡ false
            → is_listed (filter_map item (if b then distinct same xs else x ∷ distinct same xs)) m ≡ false
        go true o k s r = r
        go false None k s r = ap (λ o. is_listed (cons_option o (items_of xs)) m) k ∙ r
        go false (Some y) k s r =
            ap (λ o. is_listed (cons_option o (items_of xs)) m) k
            ∙ (ap (λ b. b || is_listed (items_of xs) m) (equiv.congr (message y) x m (items.own x y k) ∙ s) ∙ r)

    once-listed : (ms : List M) → IsOnce (items_of ms)
    once-listed [] = tt
    once-listed (x ∷ xs) = go (is_in xs x) (item x) refl refl (once-listed xs)
      where
        go : (b : Bool) (o : Option X) → is_in xs x ≡ b → item x ≡ o → IsOnce (items_of xs)
            → IsOnce (filter_map item (if b then distinct same xs else x ∷ distinct same xs))
        go true o i k r = r
        go false None i k r = subst (λ o. IsOnce (cons_option o (items_of xs))) (sym k) r
        go false (Some y) i k r =
            subst (λ o. IsOnce (cons_option o (items_of xs))) (sym k)
            (none-listed xs (message y) (in-alike xs (message y) x (items.own x y k) ∙ i), r)

    each-item : (ms : List M) → AllByRecursion IsItem (filter_map item ms)
    each-item [] = tt
    each-item (x ∷ xs) = go (item x) refl (each-item xs)
      where
        go : (o : Option X) → item x ≡ o → AllByRecursion IsItem (filter_map item xs) → AllByRecursion IsItem (cons_option (item x) (filter_map item xs))
        go None k r = subst (λ o. AllByRecursion IsItem (cons_option o (filter_map item xs))) (sym k) r
        go (Some y) k r = subst (λ o. AllByRecursion IsItem (cons_option o (filter_map item xs))) (sym k) (is-item x y k, r)

    cons-listed : (o : Option X) (xs : List X) (m : M) → is_listed xs m ≡ true → is_listed (cons_option o xs) m ≡ true
    cons-listed None xs m h = h
    cons-listed (Some x) xs m h = ap (λ b. same (message x) m || b) h ∙ or-true (same (message x) m)

    some-listed : (ms : List M) (m : M) (y : X) → item m ≡ Some y → is_in ms m ≡ true → is_listed (items_of ms) m ≡ true
    some-listed [] m y k h = absurd (false≢true h)
    some-listed (x ∷ xs) m y k h = go (is_in xs x) (same x m) refl refl h (some-listed xs m y k)
      where
        go : (b c : Bool) → is_in xs x ≡ b → same x m ≡ c → c || is_in xs m ≡ true → (is_in xs m ≡ true → is_listed (items_of xs) m ≡ true)
            → is_listed (filter_map item (if b then distinct same xs else x ∷ distinct same xs)) m ≡ true
        go true true i s h r = r (sym (in-alike xs x m s) ∙ i)
        go true false i s h r = r h
        go false true i s h r =
            ap (λ o. is_listed (cons_option o (items_of xs)) m) (items.alike x m s ∙ k)
            ∙ ap (λ b. b || is_listed (items_of xs) m) (items.own m y k)
        go false false i s h r = cons-listed (item x) (items_of xs) m (r h)

    -- what is listed has an item
    listed-some : (xs : List X) (m : M) → AllByRecursion IsItem xs → is_listed xs m ≡ true → is_some (item m) ≡ true
    listed-some [] m owns h = absurd (false≢true h)
    listed-some (x ∷ xs) m owns h = go (same (message x) m) refl h (listed-some xs m owns.1)
      where
        go : (b : Bool) → same (message x) m ≡ b → b || is_listed xs m ≡ true → (is_listed xs m ≡ true → is_some (item m) ≡ true) → is_some (item m) ≡ true
        go true s h rest = ap is_some (sym (items.alike (message x) m s) ∙ owns.0)
        go false s h rest = rest h

    -- exactly what has an item is listed
    pub listed-is : (xs : List X) (m : M) → AllByRecursion IsItem xs → (is_some (item m) ≡ true → is_listed xs m ≡ true) → is_listed xs m ≡ is_some (item m)
    listed-is xs m owns h = both (is_listed xs m) (is_some (item m)) (listed-some xs m owns) h

    module _ (ms : List M) (whole : (m : M) → is_in ms m ≡ false → item m ≡ None) where
      all-listed : (m : M) → is_some (item m) ≡ true → is_listed (items_of ms) m ≡ true
      all-listed m h = go (item m) refl (is_in ms m) refl h
        where
          go : (o : Option X) → item m ≡ o → (b : Bool) → is_in ms m ≡ b → is_some o ≡ true → is_listed (items_of ms) m ≡ true
          go None k b j h = absurd (false≢true h)
          go (Some y) k true j h = some-listed ms m y k j
          go (Some y) k false j h = absurd (let n : item m ≡ None = whole m j in cc)

      pub items-listed : (m : M) → is_listed (items_of ms) m ≡ is_some (item m)
      items-listed m = listed-is (items_of ms) m (each-item (distinct same ms)) (all-listed m)

      module _ (before : X → X → Bool) (orders : Orders before) where
        once-insert : (x : X) (xs : List X) → is_listed xs (message x) ≡ false → IsOnce xs → IsOnce (insert_by before x xs)
        once-insert x [] h once = (h, once)
        once-insert x (y ∷ xs) h once =
            go (before y x) (once-insert x xs (or-right (same (message y) (message x)) (is_listed xs (message x)) h) once.1)
          where
            go : (b : Bool) → IsOnce (insert_by before x xs) → IsOnce (if b then y ∷ insert_by before x xs else x ∷ y ∷ xs)
            go true r = (
              any-insert before (λ z. same (message z) (message y)) x xs
                  ∙ ap (λ b. b || is_listed xs (message y)) (equiv.symm (message x) (message y) ∙ or-left (same (message y) (message x)) (is_listed xs (message x)) h) ∙ once.0,
              r,
            )
            go false r = (h, once)

        once-sorted : (xs : List X) → IsOnce xs → IsOnce (sorted_by before xs)
        once-sorted [] h = tt
        once-sorted (x ∷ xs) h = once-insert x (sorted_by before xs) (any-sorted before (λ z. same (message z) (message x)) xs ∙ h.0) (once-sorted xs h.1)

        abbrev pub items_sorted : List X
        items_sorted = sorted_by before (items_of ms)

        pub once-items : IsOnce (sorted_by before (items_of ms))
        once-items = once-sorted (items_of ms) (once-listed ms)

        -- The one list.

        abbrev rest : M → List X → List X
        rest m zs = filter (λ z. not (same m (message z))) zs

        listed-rest : (m n : M) (zs : List X) → is_listed (rest m zs) n ≡ not (same m n) && is_listed zs n
        listed-rest m n [] = none (same m n)
          where
            none : (b : Bool) → false ≡ not b && false
            none true = refl
            none false = refl
        listed-rest m n (z ∷ zs) = go (same m (message z)) (same m n) (same (message z) n) refl refl refl (listed-rest m n zs)
          where
            go : (a b c : Bool) → same m (message z) ≡ a → same m n ≡ b → same (message z) n ≡ c → is_listed (rest m zs) n ≡ not (same m n) && is_listed zs n
                → is_listed (cond (not a) (z ∷ rest m zs) (rest m zs)) n ≡ not (same m n) && (same (message z) n || is_listed zs n)
            go true true c h k i r = r ∙ (ap (λ b. not b && is_listed zs n) k ∙ sym (ap (λ b. not b && (same (message z) n || is_listed zs n)) k))
            go true false true h k i r = absurd (let e = sym (equiv.congr m (message z) n h) in false≢true (sym k ∙ (sym e ∙ i)))
            go true false false h k i r = r ∙ sym (ap (λ b. not (same m n) && (b || is_listed zs n)) i)
            go false true true h k i r = absurd (false≢true (sym h ∙ (alike (message z) n m i ∙ k)))
            go false true false h k i r = ap (λ b. b || is_listed (rest m zs) n) i ∙ (r ∙ sym (ap (λ b. not (same m n) && (b || is_listed zs n)) i))
            go false false c h k i r =
                ap (λ b. same (message z) n || b) (r ∙ ap (λ b. not b && is_listed zs n) k)
                ∙ sym (ap (λ b. not b && (same (message z) n || is_listed zs n)) k)

        -- none behind an item is of its message
        rest-none : (z : X) (zs : List X) → IsItem z → AllByRecursion (λ y. before z y ≡ true) zs → AllByRecursion IsItem zs → rest (message z) zs ≡ zs
        rest-none z [] own order owns = refl
        rest-none z (y ∷ ys) own order owns = go (same (message z) (message y)) refl (rest-none z ys own order.1 owns.1)
          where
            go : (b : Bool) → same (message z) (message y) ≡ b → rest (message z) ys ≡ ys → cond (not b) (y ∷ rest (message z) ys) (rest (message z) ys) ≡ y ∷ ys
            go true s r =
                let self : before z z ≡ true = subst (λ u. before z u ≡ true) (sym (one-item (message y) y z owns.0 own s)) order.0 in
                absurd (false≢true (sym (orders.one_way z z self) ∙ self))
            go false s r = ap (λ us. y ∷ us) r

        before-item : (z x : X) (zs : List X) → IsItem x → AllByRecursion (λ y. before z y ≡ true) zs → AllByRecursion IsItem zs → is_listed zs (message x) ≡ true → before z x ≡ true
        before-item z x [] own order owns h = absurd (false≢true h)
        before-item z x (y ∷ ys) own order owns h = go (same (message y) (message x)) refl h (before-item z x ys own order.1 owns.1)
          where
            go : (b : Bool) → same (message y) (message x) ≡ b → b || is_listed ys (message x) ≡ true → (is_listed ys (message x) ≡ true → before z x ≡ true) → before z x ≡ true
            go true s h r = subst (λ u. before z u ≡ true) (one-item (message x) x y own owns.0 s) order.0
            go false s h r = r h

        -- one goes back to its place
        insert-back : (x : X) (zs : List X) → IsItem x → IsInOrder before zs → AllByRecursion IsItem zs → is_listed zs (message x) ≡ true → insert_by before x (rest (message x) zs) ≡ zs
        insert-back x [] own order owns h = absurd (false≢true h)
        insert-back x (z ∷ zs) own order owns h = go (same (message x) (message z)) refl (insert-back x zs own order.1 owns.1)
          where
            go : (b : Bool) → same (message x) (message z) ≡ b → (is_listed zs (message x) ≡ true → insert_by before x (rest (message x) zs) ≡ zs)
                → insert_by before x (cond (not b) (z ∷ rest (message x) zs) (rest (message x) zs)) ≡ z ∷ zs
            go true s r =
                let one : z ≡ x = sym (one-item (message z) z x owns.0 own s) in
                subst (λ u. insert_by before u (rest (message u) zs) ≡ z ∷ zs) one
                (ap (insert_by before z) (rest-none z zs owns.0 order.0 owns.1) ∙ insert-first before orders z zs order.0)
            go false s r =
                let later : is_listed zs (message x) ≡ true = sym (ap (λ b. b || is_listed zs (message x)) (equiv.symm (message z) (message x) ∙ s)) ∙ h in
                ap (λ b. if b then z ∷ insert_by before x (rest (message x) zs) else x ∷ z ∷ rest (message x) zs) (before-item z x zs own order.0 owns.1 later)
                ∙ ap (λ us. z ∷ us) (r later)

        sorted-is : (xs zs : List X) → IsOnce xs → AllByRecursion IsItem xs → IsInOrder before zs → AllByRecursion IsItem zs → ((m : M) → is_listed xs m ≡ is_listed zs m) → sorted_by before xs ≡ zs
        sorted-is [] [] once owns order own h = refl
        sorted-is [] (z ∷ zs) once owns order own h = absurd (false≢true (h (message z) ∙ ap (λ b. b || is_listed zs (message z)) (equiv.refl (message z))))
        sorted-is (x ∷ xs) zs once owns order own h =
            let m : M = message x in
            ap (insert_by before x) (sorted-is xs (rest m zs) once.1 owns.1 (order-filter before (λ z. not (same m (message z))) zs order) (all-filter IsItem (λ z. not (same m (message z))) zs own) (λ n. others n (same m n) refl ∙ sym (listed-rest m n zs)))
            ∙ insert-back x zs owns.0 order own (sym (h m) ∙ ap (λ b. b || is_listed xs m) (equiv.refl m))
          where
            others : (n : M) (b : Bool) → same (message x) n ≡ b → is_listed xs n ≡ not (same (message x) n) && is_listed zs n
            others n true s = sym (listed-alike xs (message x) n s) ∙ (once.0 ∙ sym (ap (λ b. not b && is_listed zs n) s))
            others n false s = sym (ap (λ b. b || is_listed xs n) s) ∙ (h n ∙ sym (ap (λ b. not b && is_listed zs n) s))

        pub one-list : (zs : List X) → Lists before item zs → sorted_by before (items_of ms) ≡ zs
        one-list zs l =
            sorted-is (items_of ms) zs (once-listed ms) (each-item (distinct same ms)) l.order l.own
            (λ m. items-listed m ∙ sym (listed-is zs m l.own (l.whole m)))

        -- the sorted items are that list, where one of two goes before the other
        module _ (strict : (x y : X) → item (message x) ≡ Some x → item (message y) ≡ Some y → same (message x) (message y) ≡ false → before y x ≡ false → before x y ≡ true) where
          order-once : (xs : List X) → IsSorted before xs → IsOnce xs → AllByRecursion IsItem xs → IsInOrder before xs
          order-once [] s o owns = tt
          order-once (x ∷ xs) s o owns = (behind xs s.0 o.0 owns.1, order-once xs s.1 o.1 owns.1)
            where
              behind : (ys : List X) → AllByRecursion (λ y. before y x ≡ false) ys → is_listed ys (message x) ≡ false → AllByRecursion IsItem ys → AllByRecursion (λ y. before x y ≡ true) ys
              behind [] s n k = tt
              behind (y ∷ ys) s n k = (
                strict x y owns.0 k.0 (equiv.symm (message x) (message y) ∙ or-left (same (message y) (message x)) (is_listed ys (message x)) n) s.0,
                behind ys s.1 (or-right (same (message y) (message x)) (is_listed ys (message x)) n) k.1,
              )

          pub lists-items : Lists before item (sorted_by before (items_of ms))
          lists-items = let own = all-sorted before IsItem (items_of ms) (each-item (distinct same ms)) in record {
            order = order-once (sorted_by before (items_of ms)) (sorted-sorted before orders (items_of ms)) once-items own;
            own = own;
            whole = λ m h. any-sorted before (λ x. same (message x) m) (items_of ms) ∙ all-listed m h;
          }
