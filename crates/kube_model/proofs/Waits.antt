-- The waiting list has each message once, and exactly the frozen ones; it is the list of the frozen entries that goes by their order.
use Rattle.std.proofs.Common.{◌≡◌, ℕ, ◌+◌, Bool, true, false, not, ◌&&◌, List, [], ◌∷◌, Option, Some, None, if◌then◌else◌, is_some, nat_le, refl, sym, ap, subst, ◌∙◌, arith}
use Rattle.std.specs.List.{filter_map, list_any, AllByRecursion}
use Rattle.std.specs.Option.{option_map}
use Rattle.std.specs.Cmp.{IsEquivalence}
use Rattle.std.proofs.lemmas.Bool.Decides.{nat_tests}
use Rattle.kube_model.specs.Queue.{Request, QueueEvent, Requested, Settled, Took, Entry, Frozen, entry, entry_after, entry_from, entry_of, entry_requested, entry_settled, frozen, requested_message, waiting, goes_before}
use Rattle.kube_model.specs.WaitingOnce.{is_among, HasEachOnce, is_frozen, AreInOrder, IsEntry}
use Rattle.kube_model.proofs.Alls.{or-left, or-right}
use Rattle.kube_model.proofs.Sorted.{Orders, IsInOrder, any-sorted}
use Rattle.kube_model.proofs.Listed.{is_in, IsOnce, Items, items_of, items-listed, once-items, one-list}

module _ {M : Type 0} where
  before-one_way : (a b : Frozen M) → goes_before a b ≡ true → goes_before b a ≡ false
  before-one_way a b h = grind (arith, nat_tests)

  before-between : (a b c : Frozen M) → goes_before a c ≡ true → goes_before b c ≡ false → goes_before a b ≡ true
  before-between a b c h k = grind (arith, nat_tests)

  pub before-orders : Orders {A = Frozen M} goes_before
  before-orders = record { one_way = before-one_way; between = before-between }

abbrev as_frozen : {M : Type 0} → Entry M → ℕ → Frozen M
as_frozen e settle = record { settle = settle; entry = e }

pub some-frozen : {M : Type 0} (o : Option (Entry M)) → is_some (frozen o) ≡ is_frozen o
some-frozen None = refl
some-frozen (Some e) = go e.settle
  where
    go : (s : Option ℕ) → is_some (option_map (as_frozen e) s) ≡ is_some s
    go None = refl
    go (Some n) = refl

pub frozen-entry : {M : Type 0} (e : Entry M) (n : ℕ) → e.settle ≡ Some n → frozen (Some e) ≡ Some (record { settle = n; entry = e })
frozen-entry e n k = ap (option_map (as_frozen e)) k

module _ {M : Type 0} (same : M → M → Bool) (equiv : IsEquivalence same) (debounce : ℕ) where
  alike : (a b x : M) → same a b ≡ true → same x a ≡ same x b
  alike a b x h = equiv.symm x a ∙ (equiv.congr a b x h ∙ equiv.symm b x)

  -- entries of messages that are the same are equal
  pub entry-alike : (es : List (QueueEvent M)) (m n : M) → same m n ≡ true → entry same debounce es m ≡ entry same debounce es n
  entry-alike es m n h = from 0 None es
    where
      after : (p : ℕ) (e : Option (Entry M)) (ev : QueueEvent M) → entry_after same debounce m p e ev ≡ entry_after same debounce n p e ev
      after p e (Requested q) = ap (λ b. if b then entry_requested debounce p q e else e) (alike m n q.message h)
      after p e (Settled now) = refl
      after p e (Took taken) = ap (λ b. if b then None else e) (alike m n taken h)

      from : (p : ℕ) (e : Option (Entry M)) (es : List (QueueEvent M)) → entry_from same debounce m p e es ≡ entry_from same debounce n p e es
      from p e [] = refl
      from p e (ev ∷ es) = ap (λ e. entry_from same debounce m (p + 1) e es) (after p e ev) ∙ from (p + 1) (entry_after same debounce n p e ev) es

  -- an entry is of its message
  abbrev IsOf : M → Option (Entry M) → Type 0
  IsOf m None = Unit {0}
  IsOf m (Some e) = same e.message m ≡ true

  of-if : (m : M) (b : Bool) (e f : Option (Entry M)) → IsOf m e → IsOf m f → IsOf m (if b then e else f)
  of-if m true e f h k = h
  of-if m false e f h k = k

  of-requested : (m : M) (p : ℕ) (q : Request M) (e : Option (Entry M)) → same q.message m ≡ true → IsOf m e → IsOf m (entry_requested debounce p q e)
  of-requested m p q None s h = s
  of-requested m p q (Some e) s h = of-if m (not (is_some e.settle) && nat_le q.run_at e.time) (Some (entry_of debounce p q)) (Some e) s h

  of-settled : (m : M) (p now : ℕ) (e : Option (Entry M)) → IsOf m e → IsOf m (entry_settled p now e)
  of-settled m p now None h = tt
  of-settled m p now (Some e) h = of-if m (not (is_some e.settle) && nat_le e.time now) (Some (record e { settle = Some p })) (Some e) h h

  of-after : (m : M) (p : ℕ) (e : Option (Entry M)) (ev : QueueEvent M) → IsOf m e → IsOf m (entry_after same debounce m p e ev)
  of-after m p e (Requested q) h = go (same q.message m) refl
    where
      go : (b : Bool) → same q.message m ≡ b → IsOf m (if b then entry_requested debounce p q e else e)
      go true s = of-requested m p q e s h
      go false s = h
  of-after m p e (Settled now) h = of-settled m p now e h
  of-after m p e (Took taken) h = of-if m (same taken m) None e tt h

  of-from : (m : M) (p : ℕ) (e : Option (Entry M)) (es : List (QueueEvent M)) → IsOf m e → IsOf m (entry_from same debounce m p e es)
  of-from m p e [] h = h
  of-from m p e (ev ∷ es) h = of-from m (p + 1) (entry_after same debounce m p e ev) es (of-after m p e ev h)

  pub entry-of : (es : List (QueueEvent M)) (m : M) (e : Entry M) → entry same debounce es m ≡ Some e → same e.message m ≡ true
  entry-of es m e h = subst (IsOf m) h (of-from m 0 None es tt)

  pub frozen-own : (events : List (QueueEvent M)) (m : M) (f : Frozen M) → frozen (entry same debounce events m) ≡ Some f → IsEntry same debounce events f × (same f.entry.message m ≡ true)
  frozen-own events m f h = go (entry same debounce events m) refl h
    where
      settled : (e : Entry M) (s : Option ℕ) → e.settle ≡ s → entry same debounce events m ≡ Some e → option_map (as_frozen e) s ≡ Some f
          → IsEntry same debounce events f × (same f.entry.message m ≡ true)
      settled e None k i h = absurd (cc)
      settled e (Some n) k i h =
          let one : as_frozen e n ≡ f = cc in
          let of : same e.message m ≡ true = entry-of events m e i in
          subst (λ g. IsEntry same debounce events g × (same g.entry.message m ≡ true)) one ((entry-alike events e.message m of ∙ i, k), of)

      go : (o : Option (Entry M)) → entry same debounce events m ≡ o → frozen o ≡ Some f → IsEntry same debounce events f × (same f.entry.message m ≡ true)
      go None k h = absurd (cc)
      go (Some e) k h = settled e e.settle refl k h

  -- what has an entry was requested
  pub requested-entry : (es : List (QueueEvent M)) (m : M) → list_any (λ n. same n m) (filter_map requested_message es) ≡ false → entry same debounce es m ≡ None
  requested-entry es m h = from 0 es h
    where
      from : (p : ℕ) (es : List (QueueEvent M)) → list_any (λ n. same n m) (filter_map requested_message es) ≡ false → entry_from same debounce m p None es ≡ None
      from p [] h = refl
      from p (Requested q ∷ es) h =
          ap (λ b. entry_from same debounce m (p + 1) (if b then entry_requested debounce p q None else None) es) (or-left (same q.message m) (list_any (λ n. same n m) (filter_map requested_message es)) h)
          ∙ from (p + 1) es (or-right (same q.message m) (list_any (λ n. same n m) (filter_map requested_message es)) h)
      from p (Settled now ∷ es) h = from (p + 1) es h
      from p (Took taken ∷ es) h = go (same taken m) (from (p + 1) es h)
        where
          go : (b : Bool) → entry_from same debounce m (p + 1) None es ≡ None → entry_from same debounce m (p + 1) (if b then None else None) es ≡ None
          go true r = r
          go false r = r

  abbrev message_of : Frozen M → M
  message_of f = f.entry.message

  -- What waits are the frozen entries.
  module _ (events : List (QueueEvent M)) where
    abbrev pub frozen_of : M → Option (Frozen M)
    frozen_of m = frozen (entry same debounce events m)

    pub frozen-items : Items same equiv message_of frozen_of
    frozen-items = record {
      own = λ m f h. (frozen-own events m f h).1;
      alike = λ m n h. ap frozen (entry-alike events m n h);
    }

    pub frozen-whole : (m : M) → is_in same equiv message_of (filter_map requested_message events) m ≡ false → frozen_of m ≡ None
    frozen-whole m h = ap frozen (requested-entry events m h)

    once-of : (fs : List (Frozen M)) → IsOnce same equiv message_of fs → HasEachOnce same fs
    once-of [] h = tt
    once-of (f ∷ fs) h = (h.0, once-of fs h.1)

    pub waiting-once : HasEachOnce same (waiting same debounce events)
    waiting-once =
        once-of (waiting same debounce events)
        (once-items same equiv message_of frozen_of frozen-items (filter_map requested_message events) frozen-whole goes_before before-orders)

    pub waiting-frozen : (m : M) → is_among same (waiting same debounce events) m ≡ is_frozen (entry same debounce events m)
    waiting-frozen m =
        any-sorted goes_before (λ f. same f.entry.message m) (items_of same equiv message_of frozen_of frozen-items (filter_map requested_message events))
        ∙ (items-listed same equiv message_of frozen_of frozen-items (filter_map requested_message events) frozen-whole m ∙ some-frozen (entry same debounce events m))

    order-of : (fs : List (Frozen M)) → AreInOrder fs → IsInOrder goes_before fs
    order-of [] h = tt
    order-of (f ∷ fs) h = (h.0, order-of fs h.1)

    items-of : (fs : List (Frozen M)) → AllByRecursion (IsEntry same debounce events) fs → AllByRecursion (λ f. frozen_of f.entry.message ≡ Some f) fs
    items-of [] h = tt
    items-of (f ∷ fs) h = (ap frozen h.0.0 ∙ frozen-entry f.entry f.settle h.0.1, items-of fs h.1)

    pub waiting-is : (fs : List (Frozen M)) → AreInOrder fs → AllByRecursion (IsEntry same debounce events) fs → ((m : M) → is_frozen (entry same debounce events m) ≡ true → is_among same fs m ≡ true)
        → waiting same debounce events ≡ fs
    waiting-is fs order owns whole =
        one-list same equiv message_of frozen_of frozen-items (filter_map requested_message events) frozen-whole goes_before before-orders fs
        (record { order = order-of fs order; own = items-of fs owns; whole = λ m h. whole m (sym (some-frozen (entry same debounce events m)) ∙ h) })
