-- A store that is put together: each object is found under its own key, and one more exchange brings what it requests.
use Rattle.std.proofs.Common.{◌≡◌, Bool, true, false, not, ◌||◌, cond, List, [], ◌∷◌, ◌++◌, map, Some, if◌then◌else◌, refl, sym, ap, subst, ◌∙◌, append-nil}
use Rattle.std.specs.List.{filter, find, flat_map, fold, list_any, AllByRecursion}
use Rattle.std.proofs.lemmas.List.Sums.{fold-append}
use Rattle.std.proofs.lemmas.Grind.{flat_map-append}
use Rattle.kube_meta.specs.Reference.{Reference, same_reference}
use Rattle.kube_meta.specs.ReferenceLaws.{same_reference_equiv}
use Rattle.kube_model.specs.History.{Exchange}
use Rattle.kube_model.specs.Owed.{mark, marks}
use Rattle.kube_model.specs.Store.{Change, Put, Gone, put, changed, store_of, stored_under, listed, listed_to, since, is_ready, completes, changes_of}
use Rattle.kube_model.specs.Cuts.{up_to_last, after_last}
use Rattle.kube_model.specs.Fits.{put_of}
use Rattle.kube_model.proofs.Lasts.{any-miss, up_to_last-miss, after_last-hit, after_last-miss}
use Rattle.kube_model.proofs.Marks.{marks-push}
use Rattle.kube_model.proofs.Alls.{all-both, all-left, all-right, all-filter, none-passes, or-left, or-right}

-- equal references match alike
pub alike : (a b x : Reference) → same_reference a b ≡ true → same_reference x a ≡ same_reference x b
alike a b x h = same_reference_equiv.symm x a ∙ (same_reference_equiv.congr a b x h ∙ same_reference_equiv.symm b x)

module _ {O : Type 0} (key : O → Reference) where
  -- no two under one key
  abbrev pub AreDistinct : List O → Type 0
  AreDistinct [] = Unit {0}
  AreDistinct (o ∷ os) = (list_any (λ p. same_reference (key p) (key o)) os ≡ false) × AreDistinct os

  any-put : (f : O → Bool) (ps : List O) (o : O) → list_any f ps ≡ false → f o ≡ false → list_any f (put key ps o) ≡ false
  any-put f [] o h k = ap (λ b. b || false) k
  any-put f (p ∷ ps) o h k = go (same_reference (key p) (key o)) (any-put f ps o (or-right (f p) (list_any f ps) h) k)
    where
      go : (b : Bool) → list_any f (put key ps o) ≡ false → list_any f (if b then o ∷ ps else p ∷ put key ps o) ≡ false
      go true r = ap (λ c. c || list_any f ps) k ∙ or-right (f p) (list_any f ps) h
      go false r = ap (λ c. c || list_any f (put key ps o)) (or-left (f p) (list_any f ps) h) ∙ r

  any-alike : (a b : Reference) (ps : List O) → same_reference a b ≡ true → list_any (λ p. same_reference (key p) a) ps ≡ list_any (λ p. same_reference (key p) b) ps
  any-alike a b [] h = refl
  any-alike a b (p ∷ ps) h = ap (λ c. c || list_any (λ p. same_reference (key p) a) ps) (alike a b (key p) h) ∙ ap (λ c. same_reference (key p) b || c) (any-alike a b ps h)

  any-filter : (f g : O → Bool) (ps : List O) → list_any f ps ≡ false → list_any f (filter g ps) ≡ false
  any-filter f g [] h = refl
  any-filter f g (p ∷ ps) h = go (g p) (any-filter f g ps (or-right (f p) (list_any f ps) h))
    where
      go : (b : Bool) → list_any f (filter g ps) ≡ false → list_any f (if b then p ∷ filter g ps else filter g ps) ≡ false
      go true r = ap (λ c. c || list_any f (filter g ps)) (or-left (f p) (list_any f ps) h) ∙ r
      go false r = r

  pub distinct-put : (ps : List O) (o : O) → AreDistinct ps → AreDistinct (put key ps o)
  distinct-put [] o d = (refl, tt)
  distinct-put (p ∷ ps) o d = go (same_reference (key p) (key o)) refl (distinct-put ps o d.1)
    where
      go : (b : Bool) → same_reference (key p) (key o) ≡ b → AreDistinct (put key ps o) → AreDistinct (if b then o ∷ ps else p ∷ put key ps o)
      go true e r = (sym (any-alike (key p) (key o) ps e) ∙ d.0, d.1)
      go false e r = (any-put (λ q. same_reference (key q) (key p)) ps o d.0 (same_reference_equiv.symm (key o) (key p) ∙ e), r)

  pub distinct-filter : (g : O → Bool) (ps : List O) → AreDistinct ps → AreDistinct (filter g ps)
  distinct-filter g [] d = tt
  distinct-filter g (p ∷ ps) d = go (g p) (distinct-filter g ps d.1)
    where
      go : (b : Bool) → AreDistinct (filter g ps) → AreDistinct (if b then p ∷ filter g ps else filter g ps)
      go true r = (any-filter (λ q. same_reference (key q) (key p)) g ps d.0, r)
      go false r = r

  distinct-changed : (ps : List O) (c : Change O) → AreDistinct ps → AreDistinct (changed key ps c)
  distinct-changed ps (Put o) d = distinct-put ps o d
  distinct-changed ps (Gone o) d = distinct-filter (λ p. not (same_reference (key p) (key o))) ps d

  pub distinct-puts : (ps os : List O) → AreDistinct ps → AreDistinct (fold (put key) ps os)
  distinct-puts ps [] d = d
  distinct-puts ps (o ∷ os) d = distinct-puts (put key ps o) os (distinct-put ps o d)

  distinct-changes : (ps : List O) (cs : List (Change O)) → AreDistinct ps → AreDistinct (fold (changed key) ps cs)
  distinct-changes ps [] d = d
  distinct-changes ps (c ∷ cs) d = distinct-changes (changed key ps c) cs (distinct-changed ps c d)

  pub distinct-store : (xs : List (Exchange O)) → AreDistinct (store_of key xs)
  distinct-store xs = distinct-changes (fold (put key) [] (listed xs)) (since xs) (distinct-puts [] (listed xs) tt)

  -- it is found under its own key
  abbrev pub IsFoundIn : List O → O → Type 0
  IsFoundIn store o = stored_under key store (key o) ≡ Some o

  pub each-found : (store : List O) → AreDistinct store → AllByRecursion (IsFoundIn store) store
  each-found [] d = tt
  each-found (o ∷ os) d = (
    ap (λ b. cond b (Some o) (find (λ p. same_reference (key p) (key o)) os)) (same_reference_equiv.refl (key o)),
    all-both (λ q. same_reference (key q) (key o) ≡ false) (IsFoundIn os) (IsFoundIn (o ∷ os))
        (λ q n f. ap (λ b. cond b (Some o) (find (λ p. same_reference (key p) (key q)) os)) (same_reference_equiv.symm (key o) (key q) ∙ n) ∙ f)
        os (none-passes (λ q. same_reference (key q) (key o)) os d.0) (each-found os d.1),
  )

  -- P of what was stored and of what is put is P of what is stored
  pub all-put : (P : O → Type 0) (ps : List O) (o : O) → AllByRecursion P ps → P o → AllByRecursion P (put key ps o)
  all-put P [] o h k = (k, tt)
  all-put P (p ∷ ps) o h k = go (same_reference (key p) (key o)) (all-put P ps o h.1 k)
    where
      go : (b : Bool) → AllByRecursion P (put key ps o) → AllByRecursion P (if b then o ∷ ps else p ∷ put key ps o)
      go true r = (k, h.1)
      go false r = (h.0, r)

  pub all-puts : (P : O → Type 0) (ps os : List O) → AllByRecursion P ps → AllByRecursion P os → AllByRecursion P (fold (put key) ps os)
  all-puts P ps [] h k = h
  all-puts P ps (o ∷ os) h k = all-puts P (put key ps o) os (all-put P ps o h k.0) k.1

  all-changed : (P : O → Type 0) (ps : List O) (c : Change O) → AllByRecursion P ps → AllByRecursion P (put_of c) → AllByRecursion P (changed key ps c)
  all-changed P ps (Put o) h k = all-put P ps o h k.0
  all-changed P ps (Gone o) h k = all-filter P (λ p. not (same_reference (key p) (key o))) ps h

  all-changes : (P : O → Type 0) (ps : List O) (cs : List (Change O)) → AllByRecursion P ps → AllByRecursion P (flat_map put_of cs) → AllByRecursion P (fold (changed key) ps cs)
  all-changes P ps [] h k = h
  all-changes P ps (c ∷ cs) h k =
      all-changes P (changed key ps c) cs (all-changed P ps c h (all-left P (put_of c) (flat_map put_of cs) k)) (all-right P (put_of c) (flat_map put_of cs) k)

  -- the objects that an exchange of a watched source requests after these
  abbrev pub requested : List (Exchange O) → Exchange O → List O
  requested before x = if completes (mark before x) then listed (before ++ x ∷ []) else flat_map put_of (changes_of (mark before x))

  if-same : {A : Type 0} (b : Bool) (a : A) → (if b then a else a) ≡ a
  if-same true a = refl
  if-same false a = refl

  since-completed : (xs : List (Exchange O)) (x : Exchange O) → completes (mark xs x) ≡ true → since (xs ++ x ∷ []) ≡ []
  since-completed xs x h =
      ap (λ ms. if is_ready (xs ++ x ∷ []) then flat_map changes_of (after_last completes ms) else []) (marks-push xs x)
      ∙ ap (λ ms. if is_ready (xs ++ x ∷ []) then flat_map changes_of ms else []) (after_last-hit completes (marks xs) (mark xs x) h)
      ∙ if-same (is_ready (xs ++ x ∷ [])) []

  pub ready-push : (xs : List (Exchange O)) (x : Exchange O) → completes (mark xs x) ≡ false → is_ready (xs ++ x ∷ []) ≡ is_ready xs
  ready-push xs x h = ap (list_any completes) (marks-push xs x) ∙ any-miss completes (marks xs) (mark xs x) h

  if-append : {A : Type 0} (b : Bool) (xs ys : List A) → (if b then xs ++ ys else []) ≡ (if b then xs else []) ++ (if b then ys else [])
  if-append true xs ys = refl
  if-append false xs ys = refl

  since-push : (xs : List (Exchange O)) (x : Exchange O) → completes (mark xs x) ≡ false
      → since (xs ++ x ∷ []) ≡ since xs ++ (if is_ready xs then changes_of (mark xs x) else [])
  since-push xs x h =
      ap (λ b. if b then flat_map changes_of (after_last completes (marks (xs ++ x ∷ []))) else []) (ready-push xs x h)
      ∙ ap (λ ms. if is_ready xs then flat_map changes_of (after_last completes ms) else []) (marks-push xs x)
      ∙ ap (λ ms. if is_ready xs then flat_map changes_of ms else []) (after_last-miss completes (marks xs) (mark xs x) h)
      ∙ ap (λ cs. if is_ready xs then cs else []) (flat_map-append changes_of (after_last completes (marks xs)) (mark xs x ∷ []) ∙ ap (λ cs. flat_map changes_of (after_last completes (marks xs)) ++ cs) (append-nil (changes_of (mark xs x))))
      ∙ if-append (is_ready xs) (flat_map changes_of (after_last completes (marks xs))) (changes_of (mark xs x))

  listed-push : (xs : List (Exchange O)) (x : Exchange O) → completes (mark xs x) ≡ false → listed (xs ++ x ∷ []) ≡ listed xs
  listed-push xs x h =
      ap (λ ms. listed_to (map (λ m. m.exchange) (up_to_last completes ms))) (marks-push xs x)
      ∙ ap (λ ms. listed_to (map (λ m. m.exchange) ms)) (up_to_last-miss completes (marks xs) (mark xs x) h)

  -- one more exchange that completes no list changes the store by what it brings
  pub store-push : (xs : List (Exchange O)) (x : Exchange O) → completes (mark xs x) ≡ false
      → store_of key (xs ++ x ∷ []) ≡ fold (changed key) (store_of key xs) (if is_ready xs then changes_of (mark xs x) else [])
  store-push xs x h =
      ap (λ os. fold (changed key) (fold (put key) [] os) (since (xs ++ x ∷ []))) (listed-push xs x h)
      ∙ ap (fold (changed key) (fold (put key) [] (listed xs))) (since-push xs x h)
      ∙ fold-append (changed key) (fold (put key) [] (listed xs)) (since xs) (if is_ready xs then changes_of (mark xs x) else [])

  -- one that completes a list makes the store that list
  pub store-completed : (xs : List (Exchange O)) (x : Exchange O) → completes (mark xs x) ≡ true
      → store_of key (xs ++ x ∷ []) ≡ fold (put key) [] (listed (xs ++ x ∷ []))
  store-completed xs x h = ap (fold (changed key) (fold (put key) [] (listed (xs ++ x ∷ [])))) (since-completed xs x h)

  all-if : {A : Type 0} (P : A → Type 0) (b : Bool) (xs : List A) → AllByRecursion P xs → AllByRecursion P (if b then xs else [])
  all-if P true xs h = h
  all-if P false xs h = tt

  if-flat : (b : Bool) (cs : List (Change O)) → (if b then flat_map put_of cs else []) ≡ flat_map put_of (if b then cs else [])
  if-flat true cs = refl
  if-flat false cs = refl

  -- P of what was stored and of what the exchange requests is P of what is stored
  pub all-store : (P : O → Type 0) (xs : List (Exchange O)) (x : Exchange O) → AllByRecursion P (store_of key xs) → AllByRecursion P (requested xs x)
      → AllByRecursion P (store_of key (xs ++ x ∷ []))
  all-store P xs x h k = go (completes (mark xs x)) refl k
    where
      go : (b : Bool) → completes (mark xs x) ≡ b → AllByRecursion P (if b then listed (xs ++ x ∷ []) else flat_map put_of (changes_of (mark xs x)))
          → AllByRecursion P (store_of key (xs ++ x ∷ []))
      go true e k = subst (AllByRecursion P) (sym (store-completed xs x e)) (all-puts P [] (listed (xs ++ x ∷ [])) tt k)
      go false e k =
          subst (AllByRecursion P) (sym (store-push xs x e))
          (all-changes P (store_of key xs) (if is_ready xs then changes_of (mark xs x) else []) h
          (subst (AllByRecursion P) (if-flat (is_ready xs) (changes_of (mark xs x))) (all-if P (is_ready xs) (flat_map put_of (changes_of (mark xs x))) k)))
