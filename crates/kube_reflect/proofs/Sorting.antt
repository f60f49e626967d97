-- On places that are sorted once: what a sort leaves of them, what a look at neighbours says of all, and what puts of unequal references make.
use Rattle.std.proofs.Common.{◌≡◌, ◌≢◌, ℕ, zero, suc, ◌+◌, ◌-◌, ◌<◌, List, [], ◌∷◌, ◌++◌, length, get_or, refl, sym, ◌∙◌, ap, subst, arith, length-append}
use Rattle.std.specs.List.{fold}
use Rattle.std.specs.List.Sorted.{IsPermutation}
use Rattle.std.specs.Cmp.{IsTotalOrder}
use Rattle.std.specs.declared.cmp.Ordering.{Ordering}
use Rattle.std.specs.declared.cmp.Ordering.TheVariants.{Less}
use Rattle.std.proofs.lemmas.List.{append-nil, append_assoc, get_or_append_left, get_or-append_right, get_or_default}
use Rattle.std.proofs.lemmas.List.Elements.{All-from_get_or, All-get_or}
use Rattle.std.proofs.lemmas.List.Sorted.{length_permutation, All-permutation, Contains-permutation}
use Rattle.std.specs.Arc.{arc_value}
use Rattle.kube_meta.specs.Reference.{ObjectType, Reference}
use Rattle.kube_meta.specs.Keys.{reference_of}
use Rattle.kube_meta.specs.declared.object_ref.ObjectRef.{ObjectRef}
use Rattle.kube_reflect.specs.declared.stored.Stored.{Stored}
use Rattle.kube_reflect.specs.Views.{stored_of, all_stored}
use Rattle.kube_reflect.specs.Cached.{put_under}
use Rattle.kube_reflect.specs.Indexes.{reference_cmp, no_reference, references, key_at, AreAll, IsIndex}
use Rattle.kube_reflect.proofs.Indexed.{put_last, at-item}
use Rattle.kube_reflect.proofs.Indexing.{distinct}
use Rattle.kube_reflect.proofs.Ordering.{reference_total}
use Rattle.kube_reflect.proofs.Searched.{references-append}

-- the places in the order in which they came
pub all_counted : (n : ℕ) (places : List ℕ) → length places ≡ n → ((k : ℕ) → k < n → get_or places k 0 ≡ k) → AreAll n places
all_counted n places len each = record {
  len = len;
  within = λ k h. let e = each k h in omega arith;
  covers = λ p h. (p, h, each p h);
}

-- and in any other order
pub all_moved : (n : ℕ) (xs ys : List ℕ) → AreAll n xs → IsPermutation xs ys → AreAll n ys
all_moved n xs ys all moved = record {
  len = long;
  within = λ k h. All-get_or (λ p. p < n) ys k 0 (let l = long in omega arith) (All-permutation (λ p. p < n) xs ys moved (All-from_get_or (λ p. p < n) xs 0 (λ k h. all.within k (let l = all.len in omega arith))));
  covers = λ p h.
      let a = all.covers p h in
      let l = all.len in
      let there : a.0 < length xs = let b = a.1 in omega arith in
      let b = Contains-permutation xs ys p moved (a.0, there, get_or_default xs a.0 p 0 there ∙ a.2) in
      (b.0, subst (λ m. b.0 < m) long b.1, get_or_default ys b.0 0 p b.1 ∙ b.2);
}
  where
    long : length ys ≡ n
    long = length_permutation xs ys moved ∙ all.len

-- what rises from each to the next rises over any distance
module _ {R : Type 0} (cmp : R → R → Ordering) (o : IsTotalOrder cmp) where
  pub climbs : (f : ℕ → R) (n : ℕ) → ((j : ℕ) → j + 1 < n → cmp (f j) (f (j + 1)) ≡ Less) → (i d k : ℕ) → k ≡ i + d + 1 → k < n → cmp (f i) (f k) ≡ Less
  climbs f n step i zero k e h = ap (λ j. cmp (f i) (f j)) (omega arith) ∙ step i (omega arith)
  climbs f n step i (suc d) k e h =
      o.trans _ _ _ (climbs f n step i d (i + d + 1) refl (omega arith))
      (ap (λ j. cmp (f (i + d + 1)) (f j)) (omega arith) ∙ step (i + d + 1) (omega arith))

pub indexed_all : (keys : List Reference) (places : List ℕ) → AreAll (length keys) places
    → ((j : ℕ) → j + 1 < length keys → reference_cmp (key_at reference_cmp no_reference keys places j) (key_at reference_cmp no_reference keys places (j + 1)) ≡ Less)
    → IsIndex keys places
indexed_all keys places all step = record {
  len = all.len;
  within = all.within;
  rises = λ i k h hk. climbs reference_cmp reference_total (key_at reference_cmp no_reference keys places) (length keys) step i (k - i - 1) k (omega arith) hk;
  covers = all.covers;
}

-- the reference of the item at the place that stands at m
module _ {K D : Type 0} (type_of : D → ObjectType) (items : List (Stored K D)) (places : List ℕ) where
  pub key_seen : (m : ℕ) (x : Stored K D) (r : ObjectRef K D) → get_or places m 0 < length items → x ≡ get_or items (get_or places m 0) x
      → r ≡ arc_value (get_or items (get_or places m 0) x).reference → reference_of type_of r ≡ key_at reference_cmp no_reference (references (all_stored type_of items)) places m
  key_seen m x r h e d =
      ap (reference_of type_of) d
      ∙ (ap (λ (y : Stored K D). reference_of type_of (arc_value y.reference)) (sym e) ∙ sym (at-item (stored_of type_of) items (get_or places m 0) x h e))

module _ {O : Type 0} where
  -- no reference comes again
  abbrev Unequal : List (Reference × O) → Type 0
  Unequal ps = (p q : ℕ) → p < length (references ps) → q < length (references ps) → get_or (references ps) p no_reference ≡ get_or (references ps) q no_reference → p ≡ q

  not_before : (done : List (Reference × O)) (p : Reference × O) (ps : List (Reference × O)) → Unequal (done ++ p ∷ ps)
      → (q : ℕ) → q < length (references done) → get_or (references done) q no_reference ≢ p.0
  not_before done p ps unequal q h e =
      let split = references-append done (p ∷ ps) in
      let keys = references done ++ p.0 ∷ references ps in
      let n = length (references done) in
      let none_left : n - n ≡ 0 = omega arith in
      let long : n < length keys = omega (arith, length-append (references done) (p.0 ∷ references ps)) in
      let low : get_or keys q no_reference ≡ p.0 = get_or_append_left (references done) (p.0 ∷ references ps) no_reference q h ∙ e in
      let here : get_or keys n no_reference ≡ p.0 = get_or-append_right (references done) (p.0 ∷ references ps) n n no_reference refl (omega arith) ∙ ap (λ k. get_or (p.0 ∷ references ps) k no_reference) none_left in
      let same = (subst (λ ks. (a b : ℕ) → a < length ks → b < length ks → get_or ks a no_reference ≡ get_or ks b no_reference → a ≡ b) split unequal) q n (omega arith) long (low ∙ sym here) in
      omega arith

  pub puts_behind : (done ps : List (Reference × O)) → Unequal (done ++ ps) → fold put_under done ps ≡ done ++ ps
  puts_behind done [] unequal = sym (append-nil done)
  puts_behind done (p ∷ ps) unequal =
      let more = append_assoc done (p ∷ []) ps in
      ap (λ qs. fold put_under qs ps) (sym (put_last (λ q. q) done p (not_before done p ps unequal)))
      ∙ (puts_behind (done ++ p ∷ []) ps (subst Unequal (sym more) unequal) ∙ more)

  -- what stands in an index is what puts of it make
  pub puts_indexed : (ps : List (Reference × O)) (places : List ℕ) → IsIndex (references ps) places → fold put_under [] ps ≡ ps
  puts_indexed ps places index = puts_behind [] ps (distinct reference_cmp reference_total no_reference (references ps) places index)
