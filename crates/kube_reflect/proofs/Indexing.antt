-- On an index of places: what an insert and a removal leave of it, and what it says of the keys.
use Rattle.std.proofs.Common.{◌≡◌, ◌≢◌, ℕ, ◌+◌, ◌-◌, ◌<◌, ◌≤◌, true, false, List, [], ◌∷◌, ◌++◌, length, get_or, map, Err, refl, sym, ◌∙◌, ap, subst, inl, inr, ◌⊎◌, arith, length-append}
use Rattle.std.specs.List.{insert, remove}
use Rattle.std.specs.Cmp.{IsTotalOrder}
use Rattle.std.specs.declared.cmp.Ordering.{Ordering}
use Rattle.std.specs.declared.cmp.Ordering.TheVariants.{Less, Equal, Greater}
use Rattle.std.specs.Ordering.{is_lt, ordering_reverse}
use Rattle.std.proofs.lemmas.Bool.{cases_order, cases_lt, cond_below, cond_above}
use Rattle.std.proofs.lemmas.Cmp.{tied_itself}
use Rattle.std.proofs.lemmas.List.{get_or_append_left, get_or_push, get_or-map, length-map}
use Rattle.std.proofs.lemmas.List.Edits.{length-insert, length-remove, get_or-insert_below, get_or-insert_at, get_or-insert_above, get_or-remove_below, get_or-remove_above}
use Rattle.kube_reflect.specs.Indexes.{IsIndexBy, IsSearchedBy, IsBelow, IsAbove, key_at, closed_up}

-- where k stands to i
abbrev Stands : ℕ → ℕ → Type 0
Stands i k = (k < i) ⊎ ((k ≡ i) ⊎ ((j : ℕ) × (i ≤ j) × (k ≡ j + 1)))

stands : (i k : ℕ) → Stands i k
stands i k = by (cases_order k i)
  where
    by : (k ≡ i) ⊎ ((k < i) ⊎ (i < k)) → Stands i k
    by (inl e) = inr (inl e)
    by (inr (inl h)) = inl h
    by (inr (inr h)) = inr (inr (k - 1, omega arith, omega arith))

true_false : {P : Type 0} → true ≡ false → P
true_false h = cc

less_equal : Less ≡ Equal → ⊥
less_equal e = true_false (ap is_lt e)

module _ {R : Type 0} (cmp : R → R → Ordering) (o : IsTotalOrder cmp) (none : R) where
  both : (x y x' y' : R) → x ≡ x' → y ≡ y' → cmp x' y' ≡ Less → cmp x y ≡ Less
  both x y x' y' e f h = ap (λ z. cmp z y) e ∙ (ap (cmp x') f ∙ h)

  not_itself : (x : R) → cmp x x ≡ Less → ⊥
  not_itself x h = less_equal (sym h ∙ tied_itself o x)

  module _ (keys : List R) (places : List ℕ) (index : IsIndexBy cmp none keys places) where
    -- no place stands twice
    pub once : (i k : ℕ) → i < length keys → k < length keys → get_or places i 0 ≡ get_or places k 0 → i ≡ k
    once i k hi hk e = by (cases_order i k)
      where
        by : (i ≡ k) ⊎ ((i < k) ⊎ (k < i)) → i ≡ k
        by (inl same) = same
        by (inr (inl h)) = absurd (not_itself (key_at cmp none keys places k) (ap (λ p. cmp (get_or keys p none) (key_at cmp none keys places k)) (sym e) ∙ index.rises i k h hk))
        by (inr (inr h)) = absurd (not_itself (key_at cmp none keys places i) (ap (λ p. cmp (get_or keys p none) (key_at cmp none keys places i)) e ∙ index.rises k i h hi))

    -- no key stands at two places
    pub distinct : (p q : ℕ) → p < length keys → q < length keys → get_or keys p none ≡ get_or keys q none → p ≡ q
    distinct p q hp hq e =
        let a = index.covers p hp in
        let b = index.covers q hq in
        by a b (cases_order a.0 b.0)
      where
        by : (a : (k : ℕ) × (k < length keys) × (get_or places k 0 ≡ p)) (b : (k : ℕ) × (k < length keys) × (get_or places k 0 ≡ q)) → (a.0 ≡ b.0) ⊎ ((a.0 < b.0) ⊎ (b.0 < a.0)) → p ≡ q
        by a b (inl same) = sym a.2 ∙ (ap (λ k. get_or places k 0) same ∙ b.2)
        by a b (inr (inl h)) =
            absurd (not_itself (get_or keys q none) (both (get_or keys q none) (get_or keys q none) _ _ (sym e ∙ ap (λ p. get_or keys p none) (sym a.2)) (ap (λ p. get_or keys p none) (sym b.2)) (index.rises a.0 b.0 h b.1)))
        by a b (inr (inr h)) =
            absurd (not_itself (get_or keys p none) (both (get_or keys p none) (get_or keys p none) _ _ (e ∙ ap (λ p. get_or keys p none) (sym b.2)) (ap (λ p. get_or keys p none) (sym a.2)) (index.rises b.0 a.0 h a.1)))

    -- what a search says of the keys
    pub absent : (key : R) (i : ℕ) → IsSearchedBy cmp none keys places key (Err i) → (q : ℕ) → q < length keys → get_or keys q none ≢ key
    absent key i found q hq e =
        let a = index.covers q hq in
        let is : key_at cmp none keys places a.0 ≡ key = ap (λ p. get_or keys p none) a.2 ∙ e in
        by a.0 a.1 is (cases_lt a.0 i)
      where
        by : (k : ℕ) → k < length keys → key_at cmp none keys places k ≡ key → (k < i) ⊎ (i ≤ k) → ⊥
        by k hk is (inl h) = not_itself key (ap (λ x. cmp x key) (sym is) ∙ found.1 k h)
        by k hk is (inr h) = not_itself key (ap (λ x. cmp key x) (sym is) ∙ found.2 k h hk)

    -- what a look at one place says of those on both sides of it
    pub below_more : (key : R) (k m : ℕ) → k < length keys → m ≡ k + 1 → cmp (key_at cmp none keys places k) key ≡ Less → IsBelow cmp none keys places key m
    below_more key k m hk e less i hi = by (cases_order i k)
      where
        by : (i ≡ k) ⊎ ((i < k) ⊎ (k < i)) → cmp (key_at cmp none keys places i) key ≡ Less
        by (inl same) = ap (λ j. cmp (key_at cmp none keys places j) key) same ∙ less
        by (inr (inl h)) = o.trans _ _ _ (index.rises i k h hk) less
        by (inr (inr h)) = absurd (omega arith)

    pub above_more : (key : R) (k : ℕ) → cmp (key_at cmp none keys places k) key ≡ Greater → IsAbove cmp none keys places key k
    above_more key k greater i hi hn = by (cases_order i k)
      where
        turned : cmp key (key_at cmp none keys places k) ≡ Less
        turned = o.antisymm _ _ ∙ ap ordering_reverse greater

        by : (i ≡ k) ⊎ ((i < k) ⊎ (k < i)) → cmp key (key_at cmp none keys places i) ≡ Less
        by (inl same) = ap (λ j. cmp key (key_at cmp none keys places j)) same ∙ turned
        by (inr (inl h)) = absurd (omega arith)
        by (inr (inr h)) = o.trans _ _ _ turned (index.rises k i h hn)

    -- a key more, whose place is put where a search ended
    module _ (key : R) (i : ℕ) (found : IsSearchedBy cmp none keys places key (Err i)) where
      abbrev more : List R
      more = keys ++ key ∷ []

      abbrev wider : List ℕ
      wider = insert places i (length keys)

      count : length more ≡ length keys + 1
      count = length-append keys (key ∷ [])

      low : i ≤ length places
      low = let a = found.0 in let b = index.len in omega arith

      key_below : (k : ℕ) → k < i → key_at cmp none more wider k ≡ key_at cmp none keys places k
      key_below k h =
          ap (λ p. get_or more p none) (get_or-insert_below places i (length keys) 0 k h low)
          ∙ get_or_append_left keys (key ∷ []) none (get_or places k 0) (index.within k (let a = found.0 in omega arith))

      key_here : (k : ℕ) → k ≡ i → key_at cmp none more wider k ≡ key
      key_here k e =
          ap (λ k. key_at cmp none more wider k) e
          ∙ (ap (λ p. get_or more p none) (get_or-insert_at places i (length keys) 0 low)
          ∙ get_or_push keys key none (length keys) refl)

      key_above : (k j : ℕ) → i ≤ j → k ≡ j + 1 → j < length keys → key_at cmp none more wider k ≡ key_at cmp none keys places j
      key_above k j h e hj =
          ap (λ k. key_at cmp none more wider k) e
          ∙ (ap (λ p. get_or more p none) (get_or-insert_above places i (length keys) 0 j h low)
          ∙ get_or_append_left keys (key ∷ []) none (get_or places j 0) (index.within j hj))

      within_more : (k : ℕ) → k < length more → get_or wider k 0 < length more
      within_more k hk = by (stands i k)
        where
          by : Stands i k → get_or wider k 0 < length more
          by (inl h) =
              let e = get_or-insert_below places i (length keys) 0 k h low in
              let w = index.within k (let a = found.0 in omega arith) in
              omega (arith, count)
          by (inr (inl e)) =
              let a : get_or wider k 0 ≡ length keys = ap (λ k. get_or wider k 0) e ∙ get_or-insert_at places i (length keys) 0 low in
              omega (arith, count)
          by (inr (inr (j, h, e))) =
              let a : get_or wider k 0 ≡ get_or places j 0 = ap (λ k. get_or wider k 0) e ∙ get_or-insert_above places i (length keys) 0 j h low in
              let w = index.within j (omega (arith, count)) in
              omega (arith, count)

      rises_more : (a b : ℕ) → a < b → b < length more → cmp (key_at cmp none more wider a) (key_at cmp none more wider b) ≡ Less
      rises_more a b h hb = by (stands i a) (stands i b)
        where
          by : Stands i a → Stands i b → cmp (key_at cmp none more wider a) (key_at cmp none more wider b) ≡ Less
          by (inl ha) (inl hb') = both _ _ _ _ (key_below a ha) (key_below b hb') (index.rises a b h (let f = found.0 in omega arith))
          by (inl ha) (inr (inl e)) = both _ _ _ _ (key_below a ha) (key_here b e) (found.1 a ha)
          by (inl ha) (inr (inr (j, hj, e))) =
              both _ _ _ _ (key_below a ha) (key_above b j hj e (omega (arith, count))) (index.rises a j (omega arith) (omega (arith, count)))
          by (inr (inl ea)) (inl hb') = absurd (omega arith)
          by (inr (inl ea)) (inr (inl e)) = absurd (omega arith)
          by (inr (inl ea)) (inr (inr (j, hj, e))) =
              both _ _ _ _ (key_here a ea) (key_above b j hj e (omega (arith, count))) (found.2 j hj (omega (arith, count)))
          by (inr (inr (l, hl, ea))) (inl hb') = absurd (omega arith)
          by (inr (inr (l, hl, ea))) (inr (inl e)) = absurd (omega arith)
          by (inr (inr (l, hl, ea))) (inr (inr (j, hj, e))) =
              both _ _ _ _ (key_above a l hl ea (omega (arith, count))) (key_above b j hj e (omega (arith, count))) (index.rises l j (omega arith) (omega (arith, count)))

      covers_more : (p : ℕ) → p < length more → (k : ℕ) × (k < length more) × (get_or wider k 0 ≡ p)
      covers_more p hp = by (cases_lt p (length keys))
        where
          old : (a : (k : ℕ) × (k < length keys) × (get_or places k 0 ≡ p)) → (a.0 < i) ⊎ (i ≤ a.0) → (k : ℕ) × (k < length more) × (get_or wider k 0 ≡ p)
          old (k, hk, e) (inl h) = (k, omega (arith, count), get_or-insert_below places i (length keys) 0 k h low ∙ e)
          old (k, hk, e) (inr h) = (k + 1, omega (arith, count), get_or-insert_above places i (length keys) 0 k h low ∙ e)

          by : (p < length keys) ⊎ (length keys ≤ p) → (k : ℕ) × (k < length more) × (get_or wider k 0 ≡ p)
          by (inl h) = let a = index.covers p h in old a (cases_lt a.0 i)
          by (inr h) = (i, (let f = found.0 in omega (arith, count)), get_or-insert_at places i (length keys) 0 low ∙ (omega (arith, count)))

      pub indexed_more : IsIndexBy cmp none more wider
      indexed_more = record {
        len = let a = length-insert places i (length keys) low in let b = index.len in omega (arith, count);
        within = within_more;
        rises = rises_more;
        covers = covers_more;
      }

    -- a key less: the place that stands at i is taken out, and those behind it are closed up
    module _ (i p : ℕ) (here : i < length keys) (stood : get_or places i 0 ≡ p) where
      abbrev fewer : List R
      fewer = remove keys p

      abbrev narrower : List ℕ
      narrower = map (closed_up p) (remove places i)

      place_in : p < length keys
      place_in = let a = index.within i here in omega arith

      count_less : length fewer + 1 ≡ length keys
      count_less = length-remove keys p place_in

      other : (k : ℕ) → k < length keys → (k ≡ i → ⊥) → get_or places k 0 ≡ p → ⊥
      other k hk n e = n (once k i hk here (e ∙ sym stood))

      closed_below : (q : ℕ) → q ≤ p → closed_up p q ≡ q
      closed_below q h = sym (cond_above p q (q - 1) q q h refl)

      closed_above : (q : ℕ) → p < q → closed_up p q ≡ q - 1
      closed_above q h = sym (cond_below p q (q - 1) q h)

      -- what is read of the keys that are left
      read : (q : ℕ) → q < length keys → (q ≡ p → ⊥) → get_or fewer (closed_up p q) none ≡ get_or keys q none
      read q hq n = by (cases_order q p)
        where
          by : (q ≡ p) ⊎ ((q < p) ⊎ (p < q)) → get_or fewer (closed_up p q) none ≡ get_or keys q none
          by (inl e) = absurd (n e)
          by (inr (inl h)) = ap (λ k. get_or fewer k none) (closed_below q (omega arith)) ∙ get_or-remove_below keys p none q h place_in
          by (inr (inr h)) =
              let e : q - 1 + 1 ≡ q = omega arith in
              ap (λ k. get_or fewer k none) (closed_above q h)
              ∙ (get_or-remove_above keys p none (q - 1) (omega arith) place_in ∙ ap (λ k. get_or keys k none) e)

      closed_in : (q : ℕ) → q < length keys → (q ≡ p → ⊥) → closed_up p q < length fewer
      closed_in q hq n = by (cases_order q p)
        where
          by : (q ≡ p) ⊎ ((q < p) ⊎ (p < q)) → closed_up p q < length fewer
          by (inl e) = absurd (n e)
          by (inr (inl h)) = let e = closed_below q (omega arith) in let b = place_in in omega (arith, count_less)
          by (inr (inr h)) = let e = closed_above q h in omega (arith, count_less)

      low_less : i < length places
      low_less = let b = index.len in omega arith

      left : length (remove places i) ≡ length fewer
      left = let a = length-remove places i low_less in let b = index.len in omega (arith, count_less)

      at_low : (k : ℕ) → k < i → get_or narrower k 0 ≡ closed_up p (get_or places k 0)
      at_low k h =
          get_or-map (closed_up p) (remove places i) k 0 0 (let l = left in let c = count_less in omega arith)
          ∙ ap (closed_up p) (get_or-remove_below places i 0 k h low_less)

      at_high : (k : ℕ) → i ≤ k → k < length fewer → get_or narrower k 0 ≡ closed_up p (get_or places (k + 1) 0)
      at_high k h hk =
          get_or-map (closed_up p) (remove places i) k 0 0 (let l = left in omega arith)
          ∙ ap (closed_up p) (get_or-remove_above places i 0 k h low_less)

      key_low : (k : ℕ) → k < i → key_at cmp none fewer narrower k ≡ key_at cmp none keys places k
      key_low k h =
          ap (λ q. get_or fewer q none) (at_low k h)
          ∙ read (get_or places k 0) (index.within k (omega arith)) (other k (omega arith) (λ e. omega arith))

      key_high : (k : ℕ) → i ≤ k → k < length fewer → key_at cmp none fewer narrower k ≡ key_at cmp none keys places (k + 1)
      key_high k h hk =
          let c : k + 1 < length keys = let c = count_less in omega arith in
          ap (λ q. get_or fewer q none) (at_high k h hk)
          ∙ read (get_or places (k + 1) 0) (index.within (k + 1) c) (other (k + 1) c (λ e. omega arith))

      within_less : (k : ℕ) → k < length fewer → get_or narrower k 0 < length fewer
      within_less k hk = by (cases_lt k i)
        where
          by : (k < i) ⊎ (i ≤ k) → get_or narrower k 0 < length fewer
          by (inl h) =
              subst (λ q. q < length fewer) (sym (at_low k h)) (closed_in (get_or places k 0) (index.within k (omega arith)) (other k (omega arith) (λ e. omega arith)))
          by (inr h) =
              let c : k + 1 < length keys = let c = count_less in omega arith in
              subst (λ q. q < length fewer) (sym (at_high k h hk)) (closed_in (get_or places (k + 1) 0) (index.within (k + 1) c) (other (k + 1) c (λ e. omega arith)))

      rises_less : (a b : ℕ) → a < b → b < length fewer → cmp (key_at cmp none fewer narrower a) (key_at cmp none fewer narrower b) ≡ Less
      rises_less a b h hb = by (cases_lt a i) (cases_lt b i)
        where
          by : (a < i) ⊎ (i ≤ a) → (b < i) ⊎ (i ≤ b) → cmp (key_at cmp none fewer narrower a) (key_at cmp none fewer narrower b) ≡ Less
          by (inl ha) (inl hb') = both _ _ _ _ (key_low a ha) (key_low b hb') (index.rises a b h (omega arith))
          by (inl ha) (inr hb') = both _ _ _ _ (key_low a ha) (key_high b hb' hb) (index.rises a (b + 1) (omega arith) (let c = count_less in omega arith))
          by (inr ha) (inl hb') = absurd (omega arith)
          by (inr ha) (inr hb') =
              both _ _ _ _ (key_high a ha (omega arith)) (key_high b hb' hb) (index.rises (a + 1) (b + 1) (omega arith) (let c = count_less in omega arith))

      -- a place of the keys that are left, as it was before
      found_less : (r q : ℕ) → q < length keys → (q ≡ p → ⊥) → closed_up p q ≡ r → (k : ℕ) × (k < length fewer) × (get_or narrower k 0 ≡ r)
      found_less r q hq n c = let a = index.covers q hq in by a (cases_order a.0 i)
        where
          by : (a : (k : ℕ) × (k < length keys) × (get_or places k 0 ≡ q)) → (a.0 ≡ i) ⊎ ((a.0 < i) ⊎ (i < a.0)) → (k : ℕ) × (k < length fewer) × (get_or narrower k 0 ≡ r)
          by (k, hk, e) (inl s) = absurd (n (sym e ∙ (ap (λ k. get_or places k 0) s ∙ stood)))
          by (k, hk, e) (inr (inl h)) = (k, (let l = count_less in omega arith), at_low k h ∙ (ap (closed_up p) e ∙ c))
          by (k, hk, e) (inr (inr h)) =
              let b : k - 1 < length fewer = let l = count_less in omega arith in
              let f : k - 1 + 1 ≡ k = omega arith in
              (k - 1, b, at_high (k - 1) (omega arith) b ∙ (ap (λ k. closed_up p (get_or places k 0)) f ∙ (ap (closed_up p) e ∙ c)))

      covers_less : (r : ℕ) → r < length fewer → (k : ℕ) × (k < length fewer) × (get_or narrower k 0 ≡ r)
      covers_less r hr = by (cases_lt r p)
        where
          by : (r < p) ⊎ (p ≤ r) → (k : ℕ) × (k < length fewer) × (get_or narrower k 0 ≡ r)
          by (inl h) = found_less r r (let l = count_less in omega arith) (λ e. omega arith) (closed_below r (omega arith))
          by (inr h) = found_less r (r + 1) (let l = count_less in omega arith) (λ e. omega arith) (closed_above (r + 1) (omega arith) ∙ omega arith)

      pub indexed_less : IsIndexBy cmp none fewer narrower
      indexed_less = record {
        len = length-map (remove places i) (closed_up p) ∙ left;
        within = within_less;
        rises = rises_less;
        covers = covers_less;
      }
