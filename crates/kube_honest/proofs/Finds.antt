-- Objects under keys, in lists in which each key stands once.
use Rattle.std.proofs.Common.{◌≡◌, Bool, true, false, not, cond, List, [], ◌∷◌, map, fold, Option, Some, None, if◌then◌else◌, refl, sym, ap, ap₂, subst, ◌∙◌}
use Rattle.std.specs.Prelude.{IsPermutation}
use Rattle.std.specs.Cmp.{IsEquivalence}
use Rattle.std.specs.List.{filter, find, AllByRecursion, IsDistinct}
use Rattle.std.specs.Option.{option_or}
use Rattle.std.proofs.lemmas.Bool.{false≢true}
use Rattle.std.proofs.lemmas.Cmp.{eq_by_cmp_equiv}
use Rattle.std.proofs.lemmas.List.Elements.{All-from_recursion, recursion_from_All}
use Rattle.std.proofs.lemmas.List.Sorted.{All-permutation, IsPermutation-refl, IsPermutation-sym, IsPermutation-cons, IsPermutation-trans, IsPermutation-map, IsPermutation-middle}
use Rattle.std.proofs.lemmas.Map.Keys.{IsDistinct-IsPermutation}
use Rattle.kube_meta.specs.declared.metadata.ObjectMeta.{ObjectMeta}
use Rattle.kube_meta.specs.Reference.{Reference, same_reference}
use Rattle.kube_model.specs.Store.{put, drop}
use Rattle.kube_model.proofs.Alls.{all-map, find-all}
use Rattle.kube_server.specs.History.{Key, key_of, same_key}
use Rattle.kube_server.proofs.HistoryLemmas.{same-equal}
use Rattle.kube_server.proofs.OrderLemmas.{key_total}

pub keys : IsEquivalence same_key
keys = eq_by_cmp_equiv key_total

pub both-keys : (k a b : Key) → same_key a b ≡ false → same_key k a ≡ true → same_key k b ≡ true → ⊥
both-keys k a b n p q = false≢true (sym n ∙ (ap₂ same_key (sym (same-equal k a p)) (sym (same-equal k b q)) ∙ keys.refl k))

cond-over : {A : Type 0} (b : Bool) (x y z : A) → cond b x z ≡ cond b x (cond b y z)
cond-over true x y z = refl
cond-over false x y z = refl

pub cond-none : {A : Type 0} (b : Bool) → cond b (let x : Option A = None in x) None ≡ None
cond-none true = refl
cond-none false = refl

pub cond-swap : {A : Type 0} (b c : Bool) (x y z : A) → (b ≡ true → c ≡ true → ⊥) → cond b x (cond c y z) ≡ cond c y (cond b x z)
cond-swap true true x y z n = absurd (n refl refl)
cond-swap true false x y z n = refl
cond-swap false c x y z n = refl

module _ {V : Type 0} (meta : V → ObjectMeta) where
  -- the key of an object
  abbrev pub own : V → Key
  own o = key_of (meta o)

  -- the object under a key
  abbrev pub under : Key → List V → Option V
  under k xs = find (λ o. same_key k (key_of (meta o))) xs

  -- each key stands once
  abbrev pub Apart : List V → Type 0
  Apart [] = Unit {0}
  Apart (o ∷ os) = (under (own o) os ≡ None) × Apart os

  pub under-alike : (k q : Key) (xs : List V) → same_key k q ≡ true → under k xs ≡ under q xs
  under-alike k q xs e = ap (λ j. under j xs) (same-equal k q e)

  -- without the object of a key
  abbrev pub others : Key → List V → List V
  others k xs = filter (λ o. not (same_key k (own o))) xs

  over-same : (k a b : Key) (p : V) (x y : Option V) → a ≡ b → cond (same_key k b) x y ≡ cond (same_key k b) x (cond (same_key k a) (Some p) y)
  over-same k a b p x y e = cond-over (same_key k b) x (Some p) y ∙ ap (λ j. cond (same_key k b) x (cond (same_key k j) (Some p) y)) (sym e)

  pub others-under : (k q : Key) (xs : List V) → under q (others k xs) ≡ cond (same_key q k) None (under q xs)
  others-under k q [] = sym (cond-none (same_key q k))
  others-under k q (x ∷ xs) = go (same_key k (own x)) refl (others-under k q xs)
    where
      go : (b : Bool) → same_key k (own x) ≡ b → under q (others k xs) ≡ cond (same_key q k) None (under q xs)
          → under q (if (not b) then x ∷ others k xs else others k xs) ≡ cond (same_key q k) None (under q (x ∷ xs))
      go true e r = r ∙ over-same q (own x) k x None (under q xs) (sym (same-equal k (own x) e))
      go false e r =
          ap (cond (same_key q (own x)) (Some x)) r
          ∙ cond-swap (same_key q (own x)) (same_key q k) (Some x) None (under q xs) (λ s t. both-keys q k (own x) e t s)

  others-same : (k : Key) (xs : List V) → under k xs ≡ None → others k xs ≡ xs
  others-same k [] h = refl
  others-same k (x ∷ xs) h = go (same_key k (own x)) h (others-same k xs)
    where
      go : (b : Bool) → cond b (Some x) (under k xs) ≡ None → (under k xs ≡ None → others k xs ≡ xs) → (if (not b) then x ∷ others k xs else others k xs) ≡ x ∷ xs
      go true h r = absurd (cc)
      go false h r = ap (λ ys. x ∷ ys) (r h)

  others-apart : (k : Key) (xs : List V) → Apart xs → Apart (others k xs)
  others-apart k [] a = tt
  others-apart k (x ∷ xs) a = go (not (same_key k (own x))) (others-apart k xs a.1)
    where
      none : (b : Bool) (o : Option V) → o ≡ None → cond b None o ≡ None
      none true o e = refl
      none false o e = e

      go : (b : Bool) → Apart (others k xs) → Apart (if b then x ∷ others k xs else others k xs)
      go true r = (others-under k (own x) xs ∙ none (same_key (own x) k) (under (own x) xs) a.0, r)
      go false r = r

  -- an object under a key, and the others
  first : (k : Key) (x : V) (xs : List V) → Apart xs → under k xs ≡ Some x → IsPermutation xs (x ∷ others k xs)
  first k x [] a h = absurd (cc)
  first k x (y ∷ ys) a h = go (same_key k (own y)) refl h (first k x ys a.1)
    where
      go : (b : Bool) → same_key k (own y) ≡ b → cond b (Some y) (under k ys) ≡ Some x → (under k ys ≡ Some x → IsPermutation ys (x ∷ others k ys))
          → IsPermutation (y ∷ ys) (x ∷ (if (not b) then y ∷ others k ys else others k ys))
      go true e h r =
          let same : y ≡ x = cc in
          subst (λ zs. IsPermutation (y ∷ ys) zs)
          ((λ i. same i ∷ ys) ∙ ap (λ zs. x ∷ zs) (sym (others-same k ys (under-alike k (own y) ys e ∙ a.0))))
          (IsPermutation-refl (y ∷ ys))
      go false e h r =
          IsPermutation-trans (y ∷ ys) (y ∷ x ∷ others k ys) (x ∷ y ∷ others k ys)
          (IsPermutation-cons y ys (x ∷ others k ys) (r h))
          (IsPermutation-middle (y ∷ []) x (others k ys))

  -- lists with the same object under each key are one in another order
  pub same-objects : (xs ys : List V) → Apart xs → Apart ys → ((k : Key) → under k xs ≡ under k ys) → IsPermutation xs ys
  same-objects [] [] a b h = IsPermutation-refl []
  same-objects [] (y ∷ ys) a b h = absurd (let e : None ≡ Some y = h (own y) ∙ ap (λ c. cond c (Some y) (under (own y) ys)) (keys.refl (own y)) in cc)
  same-objects (x ∷ xs) ys a b h =
      let here : under (own x) ys ≡ Some x = sym (h (own x)) ∙ ap (λ c. cond c (Some x) (under (own x) xs)) (keys.refl (own x)) in
      IsPermutation-trans (x ∷ xs) (x ∷ others (own x) ys) ys
      (IsPermutation-cons x xs (others (own x) ys) (same-objects xs (others (own x) ys) a.1 (others-apart (own x) ys b) (λ k. rest k (same_key k (own x)) refl (h k))))
      (IsPermutation-sym ys (x ∷ others (own x) ys) (first (own x) x ys b here))
    where
      rest : (k : Key) (c : Bool) → same_key k (own x) ≡ c → cond (same_key k (own x)) (Some x) (under k xs) ≡ under k ys → under k xs ≡ under k (others (own x) ys)
      rest k true e f = under-alike k (own x) xs e ∙ (a.0 ∙ sym (others-under (own x) k ys ∙ ap (λ c. cond c None (under k ys)) e))
      rest k false e f = ap (λ c. cond c (Some x) (under k xs)) (sym e) ∙ (f ∙ sym (others-under (own x) k ys ∙ ap (λ c. cond c None (under k ys)) e))

  -- each object stands under its own key
  pub each-own : (xs : List V) → Apart xs → AllByRecursion (λ o. under (own o) xs ≡ Some o) xs
  each-own [] a = tt
  each-own (x ∷ xs) a = (
    ap (λ c. cond c (Some x) (under (own x) xs)) (keys.refl (own x)),
    later xs (each-own xs a.1) a.0,
  )
    where
      step : (o : V) (c : Bool) → same_key (own o) (own x) ≡ c → under (own o) xs ≡ Some o → under (own x) xs ≡ None → cond c (Some x) (under (own o) xs) ≡ Some o
      step o true e f n = absurd (let g : Some o ≡ None = sym f ∙ (under-alike (own o) (own x) xs e ∙ n) in cc)
      step o false e f n = f

      later : (ys : List V) → AllByRecursion (λ o. under (own o) xs ≡ Some o) ys → under (own x) xs ≡ None → AllByRecursion (λ o. under (own o) (x ∷ xs) ≡ Some o) ys
      later ys p n = all-map (λ o. under (own o) xs ≡ Some o) (λ o. under (own o) (x ∷ xs) ≡ Some o) (λ o f. step o (same_key (own o) (own x)) refl f n) ys p

  -- what is found under a key has it
  pub found-own : (k : Key) (o : V) (xs : List V) → under k xs ≡ Some o → same_key k (own o) ≡ true
  found-own k o [] h = absurd (cc)
  found-own k o (x ∷ xs) h = go (same_key k (own x)) refl h (found-own k o xs)
    where
      go : (c : Bool) → same_key k (own x) ≡ c → cond c (Some x) (under k xs) ≡ Some o → (under k xs ≡ Some o → same_key k (own o) ≡ true) → same_key k (own o) ≡ true
      go true e h r = let same : x ≡ o = cc in subst (λ y. same_key k (own y) ≡ true) same e
      go false e h r = r h

  -- by the keys alone
  abbrev pub HasNo : Key → List Key → Type 0
  HasNo k qs = AllByRecursion (λ q. same_key k q ≡ false) qs

  none-here : (k : Key) (xs : List V) → under k xs ≡ None → HasNo k (map own xs)
  none-here k [] h = tt
  none-here k (x ∷ xs) h = go (same_key k (own x)) refl h (none-here k xs)
    where
      go : (c : Bool) → same_key k (own x) ≡ c → cond c (Some x) (under k xs) ≡ None → (under k xs ≡ None → HasNo k (map own xs)) → HasNo k (map own (x ∷ xs))
      go true e h r = absurd (cc)
      go false e h r = (e, r h)

  here-none : (k : Key) (xs : List V) → HasNo k (map own xs) → under k xs ≡ None
  here-none k [] h = refl
  here-none k (x ∷ xs) h = ap (λ c. cond c (Some x) (under k xs)) h.0 ∙ here-none k xs h.1

  distinct-apart : (xs : List V) → Apart xs → IsDistinct same_key (map own xs)
  unfolding IsDistinct
  distinct-apart [] a = tt
  distinct-apart (x ∷ xs) a = (none-here (own x) xs a.0, distinct-apart xs a.1)

  apart-distinct : (xs : List V) → IsDistinct same_key (map own xs) → Apart xs
  unfolding IsDistinct
  apart-distinct [] d = tt
  apart-distinct (x ∷ xs) d = (here-none (own x) xs d.0, apart-distinct xs d.1)

  -- another order changes nothing
  pub apart-moved : (xs ys : List V) → IsPermutation xs ys → Apart xs → Apart ys
  apart-moved xs ys p a =
      apart-distinct ys (IsDistinct-IsPermutation same_key keys.symm (map own xs) (map own ys) (IsPermutation-map own xs ys p) (distinct-apart xs a))

  pub under-moved : (xs ys : List V) → IsPermutation xs ys → Apart xs → (k : Key) → under k xs ≡ under k ys
  under-moved xs ys p a k = go (under k ys) refl (under k xs) refl
    where
      b : Apart ys
      b = apart-moved xs ys p a

      in-ys : AllByRecursion (λ o. under (own o) ys ≡ Some o) xs
      in-ys = recursion_from_All (λ o. under (own o) ys ≡ Some o) xs (All-permutation (λ o. under (own o) ys ≡ Some o) ys xs (IsPermutation-sym xs ys p) (All-from_recursion (λ o. under (own o) ys ≡ Some o) ys (each-own ys b)))

      there : (o : V) → under k xs ≡ Some o → under k ys ≡ Some o
      there o h = under-alike k (own o) ys (found-own k o xs h) ∙ find-all (λ y. same_key k (own y)) (λ y. under (own y) ys ≡ Some y) xs o in-ys h

      in-xs : AllByRecursion (λ o. under (own o) xs ≡ Some o) ys
      in-xs = recursion_from_All (λ o. under (own o) xs ≡ Some o) ys (All-permutation (λ o. under (own o) xs ≡ Some o) xs ys p (All-from_recursion (λ o. under (own o) xs ≡ Some o) xs (each-own xs a)))

      back : (o : V) → under k ys ≡ Some o → under k xs ≡ Some o
      back o h = under-alike k (own o) xs (found-own k o ys h) ∙ find-all (λ y. same_key k (own y)) (λ y. under (own y) xs ≡ Some y) ys o in-xs h

      go : (q : Option V) → under k ys ≡ q → (r : Option V) → under k xs ≡ r → under k xs ≡ under k ys
      go (Some o) e r f = back o e ∙ sym e
      go None e None f = f ∙ sym e
      go None e (Some o) f = f ∙ sym (there o f)

  -- ---- a store, by references that are the same where the keys are
  module _ (key : V → Reference) (alike : (a b : V) → same_reference (key a) (key b) ≡ same_key (own a) (own b)) where
    pub put-under : (k : Key) (store : List V) (o : V) → under k (put key store o) ≡ cond (same_key k (own o)) (Some o) (under k store)
    put-under k [] o = refl
    put-under k (p ∷ ps) o = go (same_reference (key p) (key o)) (sym (alike p o)) (put-under k ps o)
      where
        go : (b : Bool) → same_key (own p) (own o) ≡ b → under k (put key ps o) ≡ cond (same_key k (own o)) (Some o) (under k ps)
            → under k (if b then o ∷ ps else p ∷ put key ps o) ≡ cond (same_key k (own o)) (Some o) (under k (p ∷ ps))
        go true e r = over-same k (own p) (own o) p (Some o) (under k ps) (same-equal (own p) (own o) e)
        go false e r =
            ap (cond (same_key k (own p)) (Some p)) r
            ∙ cond-swap (same_key k (own p)) (same_key k (own o)) (Some p) (Some o) (under k ps) (both-keys k (own p) (own o) e)

    pub drop-under : (k : Key) (store : List V) (o : V) → under k (drop key store o) ≡ cond (same_key k (own o)) None (under k store)
    drop-under k [] o = sym (cond-none (same_key k (own o)))
    drop-under k (p ∷ ps) o = go (same_reference (key p) (key o)) (sym (alike p o)) (drop-under k ps o)
      where
        go : (b : Bool) → same_key (own p) (own o) ≡ b → under k (drop key ps o) ≡ cond (same_key k (own o)) None (under k ps)
            → under k (if (not b) then p ∷ drop key ps o else drop key ps o) ≡ cond (same_key k (own o)) None (under k (p ∷ ps))
        go true e r = r ∙ over-same k (own p) (own o) p None (under k ps) (same-equal (own p) (own o) e)
        go false e r =
            ap (cond (same_key k (own p)) (Some p)) r
            ∙ cond-swap (same_key k (own p)) (same_key k (own o)) (Some p) None (under k ps) (both-keys k (own p) (own o) e)

    -- objects of which each key stands once, put one after another
    puts-under : (k : Key) (store os : List V) → Apart os → under k (fold (put key) store os) ≡ option_or (under k os) (under k store)
    puts-under k store [] a = refl
    puts-under k store (o ∷ os) a =
        puts-under k (put key store o) os a.1
        ∙ (ap (λ x. option_or (under k os) x) (put-under k store o) ∙ go (same_key k (own o)) refl)
      where
        go : (b : Bool) → same_key k (own o) ≡ b → option_or (under k os) (cond b (Some o) (under k store)) ≡ option_or (cond b (Some o) (under k os)) (under k store)
        go true e = ap (λ x. option_or x (Some o)) (under-alike k (own o) os e ∙ a.0)
        go false e = refl

    or-none : (x : Option V) → option_or x None ≡ x
    or-none None = refl
    or-none (Some o) = refl

    pub listed-under : (k : Key) (os : List V) → Apart os → under k (fold (put key) [] os) ≡ under k os
    listed-under k os a = puts-under k [] os a ∙ or-none (under k os)
