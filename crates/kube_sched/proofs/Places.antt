-- The places of an entry's request and settle: they come before, and no two entries are by the same request.
use Rattle.std.proofs.Common.{◌≡◌, ℕ, ◌+◌, ◌<◌, Bool, true, false, not, ◌&&◌, ◌==◌, nat_le, List, [], ◌∷◌, length, Option, Some, None, is_some, if◌then◌else◌, refl, sym, subst, ◌∙◌, arith}
use Rattle.std.specs.Cmp.{IsEquivalence}
use Rattle.std.proofs.lemmas.Bool.{false≢true, ne_eqb}
use Rattle.std.proofs.lemmas.Bool.Decides.{nat_tests}
use Rattle.kube_model.specs.Queue.{Request, QueueEvent, Requested, Settled, Took, Entry, entry, entry_after, entry_from, entry_of, entry_requested, entry_settled}

abbrev pub IsBelow : ℕ → Option ℕ → Type 0
IsBelow p None = Unit {0}
IsBelow p (Some k) = k < p

more-places : (p : ℕ) (k : Option ℕ) → IsBelow p k → IsBelow (p + 1) k
more-places p None h = tt
more-places p (Some k) h = omega arith

-- its request and its settle come before this place
abbrev pub ComesBefore : {M : Type 0} → ℕ → Option (Entry M) → Type 0
ComesBefore p None = Unit {0}
ComesBefore p (Some e) = (e.request < p) × IsBelow p e.settle

-- they were set by different requests
abbrev pub AreApart : {M : Type 0} → Option (Entry M) → Option (Entry M) → Type 0
AreApart None o = Unit {0}
AreApart (Some e) None = Unit {0}
AreApart (Some e) (Some f) = (e.request == f.request) ≡ false

module _ {M : Type 0} (debounce : ℕ) where
  if-both : (P : Option (Entry M) → Type 0) (b : Bool) (o p : Option (Entry M)) → P o → P p → P (if b then o else p)
  if-both P true o p h k = h
  if-both P false o p h k = k

  before-more : (p : ℕ) (o : Option (Entry M)) → ComesBefore p o → ComesBefore (p + 1) o
  before-more p None h = tt
  before-more p (Some e) h = (let l = h.0 in omega arith, more-places p e.settle h.1)

  before-requested : (p : ℕ) (q : Request M) (o : Option (Entry M)) → ComesBefore p o → ComesBefore (p + 1) (entry_requested debounce p q o)
  before-requested p q None h = (omega arith, tt)
  before-requested p q (Some e) h =
      if-both (ComesBefore (p + 1)) (not (is_some e.settle) && nat_le q.run_at e.time) (Some (entry_of debounce p q)) (Some e) (omega arith, tt) (before-more p (Some e) h)

  before-settled : (p now : ℕ) (o : Option (Entry M)) → ComesBefore p o → ComesBefore (p + 1) (entry_settled p now o)
  before-settled p now None h = tt
  before-settled p now (Some e) h =
      if-both (ComesBefore (p + 1)) (not (is_some e.settle) && nat_le e.time now) (Some (record e { settle = Some p })) (Some e) (let l = h.0 in omega arith, omega arith) (before-more p (Some e) h)

  apart-sym : (o p : Option (Entry M)) → AreApart o p → AreApart p o
  apart-sym None None h = tt
  apart-sym None (Some f) h = tt
  apart-sym (Some e) None h = tt
  apart-sym (Some e) (Some f) h = grind (arith, nat_tests)

  new-apart : (p : ℕ) (q : Request M) (o : Option (Entry M)) → ComesBefore p o → AreApart (Some (entry_of debounce p q)) o
  new-apart p q None h = tt
  new-apart p q (Some f) h = ne_eqb p f.request (λ e. let l = h.0 in omega arith)

  apart-requested : (p : ℕ) (q : Request M) (o r : Option (Entry M)) → ComesBefore p r → AreApart o r → AreApart (entry_requested debounce p q o) r
  apart-requested p q None r h k = new-apart p q r h
  apart-requested p q (Some e) r h k =
      if-both (λ o. AreApart o r) (not (is_some e.settle) && nat_le q.run_at e.time) (Some (entry_of debounce p q)) (Some e) (new-apart p q r h) k

  apart-settled : (p now : ℕ) (o r : Option (Entry M)) → AreApart o r → AreApart (entry_settled p now o) r
  apart-settled p now None r h = tt
  apart-settled p now (Some e) r h = if-both (λ o. AreApart o r) (not (is_some e.settle) && nat_le e.time now) (Some (record e { settle = Some p })) (Some e) (as-before r h) h
    where
      as-before : (r : Option (Entry M)) → AreApart (Some e) r → AreApart (Some (record e { settle = Some p })) r
      as-before None h = tt
      as-before (Some f) h = h

  module _ (same : M → M → Bool) where
    before-after : (m : M) (p : ℕ) (o : Option (Entry M)) (ev : QueueEvent M) → ComesBefore p o → ComesBefore (p + 1) (entry_after same debounce m p o ev)
    before-after m p o (Requested q) h = if-both (ComesBefore (p + 1)) (same q.message m) (entry_requested debounce p q o) o (before-requested p q o h) (before-more p o h)
    before-after m p o (Settled now) h = before-settled p now o h
    before-after m p o (Took t) h = if-both (ComesBefore (p + 1)) (same t m) None o tt (before-more p o h)

    before-from : (m : M) (p : ℕ) (o : Option (Entry M)) (es : List (QueueEvent M)) → ComesBefore p o → ComesBefore (p + length es) (entry_from same debounce m p o es)
    before-from m p o [] h = let e : p ≡ p + 0 = omega arith in subst (λ k. ComesBefore k o) e h
    before-from m p o (x ∷ es) h =
        let e : (p + 1) + length es ≡ p + length (x ∷ es) = omega arith in
        subst (λ k. ComesBefore k (entry_from same debounce m p o (x ∷ es))) e (before-from m (p + 1) (entry_after same debounce m p o x) es (before-after m p o x h))

    pub entry-before : (es : List (QueueEvent M)) (m : M) → ComesBefore (length es) (entry same debounce es m)
    entry-before es m = let e : 0 + length es ≡ length es = omega arith in subst (λ k. ComesBefore k (entry same debounce es m)) e (before-from m 0 None es tt)

    module _ (equiv : IsEquivalence same) (m n : M) (other : same m n ≡ false) where
      apart-after : (p : ℕ) (o r : Option (Entry M)) (ev : QueueEvent M) → ComesBefore p o → ComesBefore p r → AreApart o r → AreApart (entry_after same debounce m p o ev) (entry_after same debounce n p r ev)
      apart-after p o r (Requested q) h i a = go (same q.message m) refl (same q.message n) refl
        where
          go : (b : Bool) → same q.message m ≡ b → (c : Bool) → same q.message n ≡ c → AreApart (if b then entry_requested debounce p q o else o) (if c then entry_requested debounce p q r else r)
          go true e true f = absurd (false≢true (sym other ∙ (sym (equiv.congr q.message m n e) ∙ f)))
          go true e false f = apart-requested p q o r i a
          go false e true f = apart-sym (entry_requested debounce p q r) o (apart-requested p q r o h (apart-sym o r a))
          go false e false f = a
      apart-after p o r (Settled now) h i a =
          apart-settled p now o (entry_settled p now r) (apart-sym (entry_settled p now r) o (apart-settled p now r o (apart-sym o r a)))
      apart-after p o r (Took t) h i a =
          if-both (λ o. AreApart o (if same t n then None else r)) (same t m) None o tt (apart-sym (if same t n then None else r) o (if-both (λ r. AreApart r o) (same t n) None r tt (apart-sym o r a)))

      apart-from : (p : ℕ) (o r : Option (Entry M)) (es : List (QueueEvent M)) → ComesBefore p o → ComesBefore p r → AreApart o r
          → AreApart (entry_from same debounce m p o es) (entry_from same debounce n p r es)
      apart-from p o r [] h i a = a
      apart-from p o r (x ∷ es) h i a =
          apart-from (p + 1) (entry_after same debounce m p o x) (entry_after same debounce n p r x) es (before-after m p o x h) (before-after n p r x i) (apart-after p o r x h i a)

      -- no two messages have entries by one request
      pub entries-apart : (es : List (QueueEvent M)) → AreApart (entry same debounce es m) (entry same debounce es n)
      entries-apart es = apart-from 0 None None es tt tt tt
