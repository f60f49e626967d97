-- On the lags of subscribers behind the references of a ring.
use Rattle.std.proofs.Common.{◌≡◌, ℕ, zero, suc, ◌+◌, ◌-◌, ◌<◌, ◌≤◌, Bool, true, false, ◌&&◌, ◌||◌, nat_le, if◌then◌else◌, List, [], ◌∷◌, ◌++◌, length, get_or, set, drop, map, Option, Some, None, refl, sym, ◌∙◌, ap, ap₂, subst, arith, one-add}
use Rattle.std.specs.Prelude.{slice_get, is_some, IfSome}
use Rattle.std.specs.List.{list_all, list_any, prefix_len}
use Rattle.std.specs.Option.{option_flatten}
use Rattle.std.proofs.lemmas.Bool.{leb-true, leb-false, le-leb}
use Rattle.std.proofs.lemmas.List.{drop_more, drop-drop, drop-append-le, length-map, length-drop, length_push, map-append, map-set}
use Rattle.kube_meta.specs.Reference.{Reference}
use Rattle.kube_reflect.specs.Reads.{object_at}
use Rattle.kube_reflect.specs.Subscribers.{Ring, first_stored, also, lags_by, free_number, placed, subscribed, with_waiting, waiting_for}
use Rattle.kube_reflect.specs.Lags.{lagging, is_within, reaches, one_more, pushed}

false_true : {P : Type 0} → false ≡ true → P
false_true h = cc

and_first : (a b : Bool) → (a && b) ≡ true → a ≡ true
and_first true b h = refl
and_first false b h = h

and_second : (a b : Bool) → (a && b) ≡ true → b ≡ true
and_second true b h = h
and_second false b h = false_true h

and_both : (a b : Bool) → a ≡ true → b ≡ true → (a && b) ≡ true
and_both a b h k = ap (λ c. c && b) h ∙ k

or_first : (a b : Bool) → (a || b) ≡ false → a ≡ false
or_first true b h = h
or_first false b h = refl

or_second : (a b : Bool) → (a || b) ≡ false → b ≡ false
or_second true b h = false_true (sym h)
or_second false b h = h

-- what waits for a subscriber is what its lag says
waiting-lag : (rs : List Reference) (lags : List (Option ℕ)) (n : ℕ) → option_flatten (slice_get (map (lagging rs) lags) n) ≡ lagging rs (option_flatten (slice_get lags n))
waiting-lag rs [] n = refl
waiting-lag rs (lag ∷ lags) zero = refl
waiting-lag rs (lag ∷ lags) (suc n) = waiting-lag rs lags n

-- the lag of a subscriber that is there is within what all are within
pub within-at : (k : ℕ) (lags : List (Option ℕ)) (n : ℕ) → list_all (is_within k) lags ≡ true → is_within k (option_flatten (slice_get lags n)) ≡ true
within-at k [] n h = refl
within-at k (lag ∷ lags) zero h = and_first (is_within k lag) (list_all (is_within k) lags) h
within-at k (lag ∷ lags) (suc n) h = within-at k lags n (and_second (is_within k lag) (list_all (is_within k) lags) h)

-- another lag that is within it
pub within-set : (k : ℕ) (lags : List (Option ℕ)) (n : ℕ) (lag : Option ℕ) → list_all (is_within k) lags ≡ true → is_within k lag ≡ true → list_all (is_within k) (set lags n lag) ≡ true
within-set k [] n lag h w = refl
within-set k (x ∷ lags) zero lag h w = and_both (is_within k lag) (list_all (is_within k) lags) w (and_second (is_within k x) (list_all (is_within k) lags) h)
within-set k (x ∷ lags) (suc n) lag h w =
    and_both (is_within k x) (list_all (is_within k) (set lags n lag)) (and_first (is_within k x) (list_all (is_within k) lags) h)
    (within-set k lags n lag (and_second (is_within k x) (list_all (is_within k) lags) h) w)

-- one more lag that is within it, at the first number that is nobody's
pub within-placed : (k : ℕ) (lags : List (Option ℕ)) (lag : ℕ) → list_all (is_within k) lags ≡ true → nat_le lag k ≡ true → list_all (is_within k) (placed lags lag) ≡ true
within-placed k [] lag h w = and_both (nat_le lag k) true w refl
within-placed k (None ∷ lags) lag h w = and_both (nat_le lag k) (list_all (is_within k) lags) w h
within-placed k (Some x ∷ lags) lag h w =
    and_both (nat_le x k) (list_all (is_within k) (placed lags lag)) (and_first (nat_le x k) (list_all (is_within k) lags) h)
    (within-placed k lags lag (and_second (nat_le x k) (list_all (is_within k) lags) h) w)

-- it is at the place of that number
pub placed-at : {A : Type 0} (xs : List (Option A)) (new : A) → prefix_len is_some xs < length xs → set xs (prefix_len is_some xs) (Some new) ≡ placed xs new
placed-at [] new h = absurd (omega arith)
placed-at (None ∷ xs) new h = refl
placed-at (Some x ∷ xs) new h = rw one-add (ap (λ ys. Some x ∷ ys) (placed-at xs new (omega arith)))

pub placed-behind : {A : Type 0} (xs : List (Option A)) (new : A) → length xs ≤ prefix_len is_some xs → xs ++ Some new ∷ [] ≡ placed xs new
placed-behind [] new h = refl
placed-behind (None ∷ xs) new h = absurd (omega arith)
placed-behind (Some x ∷ xs) new h = ap (λ ys. Some x ∷ ys) (placed-behind xs new (omega arith))

free-lagging : (rs : List Reference) (lags : List (Option ℕ)) → free_number (map (lagging rs) lags) ≡ free_number lags
free-lagging rs [] = refl
free-lagging rs (None ∷ lags) = refl
free-lagging rs (Some k ∷ lags) = ap (λ n. 1 + n) (free-lagging rs lags)

-- who is there is seen by the lags
pub some-lagging : (rs : List Reference) (lags : List (Option ℕ)) → list_any is_some (map (lagging rs) lags) ≡ list_any is_some lags
some-lagging rs [] = refl
some-lagging rs (None ∷ lags) = some-lagging rs lags
some-lagging rs (Some k ∷ lags) = refl

placed-lagging : (rs : List Reference) (lags : List (Option ℕ)) (k : ℕ) → map (lagging rs) (placed lags k) ≡ placed (map (lagging rs) lags) (drop (length rs - k) rs)
placed-lagging rs [] k = refl
placed-lagging rs (None ∷ lags) k = refl
placed-lagging rs (Some x ∷ lags) k = ap (λ ws. Some (drop (length rs - x) rs) ∷ ws) (placed-lagging rs lags k)

-- the ring of these references and lags
abbrev pub seen_ring : ℕ → List Reference → List (Option ℕ) → Bool → Ring
seen_ring room rs lags over = record { room = room; waiting = map (lagging rs) lags; is_closed = over }

abbrev pub seen_waiting : ℕ → List (Option (List Reference)) → Bool → Ring
seen_waiting room ws over = record { room = room; waiting = ws; is_closed = over }

module _ (room : ℕ) (rs : List Reference) (over : Bool) where
  -- a lag is written
  pub with_lag : (lags lags' : List (Option ℕ)) (n : ℕ) (lag : Option ℕ) (ring : Ring) → lags' ≡ set lags n lag → seen_ring room rs lags over ≡ ring
      → seen_ring room rs lags' over ≡ with_waiting ring n (lagging rs lag)
  with_lag lags lags' n lag ring e v =
      ap (λ ls. seen_ring room rs ls over) e
      ∙ (ap (λ ws. record { room = room; waiting = ws; is_closed = over }) (map-set (lagging rs) lags n lag)
      ∙ ap (λ (r : Ring). with_waiting r n (lagging rs lag)) v)

  waiting_of : (lags : List (Option ℕ)) (n : ℕ) (lag : Option ℕ) (ring : Ring) → lag ≡ option_flatten (slice_get lags n) → seen_ring room rs lags over ≡ ring
      → waiting_for ring n ≡ lagging rs lag
  waiting_of lags n lag ring e v = ap (λ (r : Ring). waiting_for r n) (sym v) ∙ (waiting-lag rs lags n ∙ ap (lagging rs) (sym e))

  -- a fact of what waits for a subscriber
  pub for_waiting : (lags : List (Option ℕ)) (n k : ℕ) (ring : Ring) (P : List Reference → Type 0) → Some k ≡ option_flatten (slice_get lags n) → seen_ring room rs lags over ≡ ring
      → P (drop (length rs - k) rs) → IfSome (waiting_for ring n) P
  for_waiting lags n k ring P l v p = subst (λ o. IfSome o P) (sym (waiting_of lags n (Some k) ring l v)) p

  -- a subscriber is added
  pub placed-seen : (lags lags' : List (Option ℕ)) (k : ℕ) (ring : Ring) → lags' ≡ placed lags k → seen_ring room rs lags over ≡ ring
      → seen_ring room rs lags' over ≡ subscribed ring (drop (length rs - k) rs)
  placed-seen lags lags' k ring e v =
      ap (λ ls. seen_ring room rs ls over) e
      ∙ (ap (λ ws. record { room = room; waiting = ws; is_closed = over }) (placed-lagging rs lags k)
      ∙ ap (λ (r : Ring). subscribed r (drop (length rs - k) rs)) v)

  pub free-seen : (lags : List (Option ℕ)) (ring : Ring) → seen_ring room rs lags over ≡ ring → free_number lags ≡ free_number ring.waiting
  free-seen lags ring v = sym (free-lagging rs lags) ∙ ap (λ (r : Ring). free_number r.waiting) v

  -- something waits only for one that is there
  there-lagging : (lag : Option ℕ) → is_some (lagging rs lag) ≡ is_some lag
  there-lagging None = refl
  there-lagging (Some k) = refl

  pub there-seen : (lags : List (Option ℕ)) (n : ℕ) (ring : Ring) → seen_ring room rs lags over ≡ ring → is_some (waiting_for ring n) ≡ true
      → is_some (option_flatten (slice_get lags n)) ≡ true
  there-seen lags n ring v h = sym (there-lagging (option_flatten (slice_get lags n))) ∙ (ap is_some (sym (waiting_of lags n (option_flatten (slice_get lags n)) ring refl v)) ∙ h)

  -- one that has left waits for nothing
  pub not_waiting : (lags : List (Option ℕ)) (n : ℕ) (ring : Ring) → None ≡ option_flatten (slice_get lags n) → seen_ring room rs lags over ≡ ring
      → is_some (waiting_for ring n) ≡ true → ⊥
  not_waiting lags n ring l v h = false_true (ap is_some (sym (waiting_of lags n None ring l v)) ∙ h)

-- looking through references
module _ {O : Type 0} (store : List (Reference × O)) where
  pub stored_here : (rs : List Reference) (place : ℕ) (r : Reference) (o : O) → place < length rs → r ≡ get_or rs place r → Some o ≡ object_at store r
      → Some (o, drop (place + 1) rs) ≡ first_stored store (drop place rs)
  stored_here rs place r o h e s =
      ap (λ (q : Option O). elim q [ Some o ↦ Some (o, drop (place + 1) rs) | None ↦ first_stored store (drop (place + 1) rs) ]) s
      ∙ ap (first_stored store) (sym (drop_more rs place r h ∙ ap (λ x. x ∷ drop (place + 1) rs) (sym e)))

  pub stored_later : (rs : List Reference) (place : ℕ) (r : Reference) → place < length rs → r ≡ get_or rs place r → None ≡ object_at store r
      → first_stored store (drop (place + 1) rs) ≡ first_stored store (drop place rs)
  stored_later rs place r h e s =
      ap (λ (q : Option O). elim q [ Some o ↦ Some (o, drop (place + 1) rs) | None ↦ first_stored store (drop (place + 1) rs) ]) s
      ∙ ap (first_stored store) (sym (drop_more rs place r h ∙ ap (λ x. x ∷ drop (place + 1) rs) (sym e)))

-- a lag within the references is how many wait
length-lagging : (rs : List Reference) (k : ℕ) → nat_le k (length rs) ≡ true → length (drop (length rs - k) rs) ≡ k
length-lagging rs k h = let w = leb-true k (length rs) h in length-drop (length rs - k) rs ∙ omega (arith, w)

lags-reaches : (room : ℕ) (rs : List Reference) (lag : Option ℕ) → is_within (length rs) lag ≡ true → lags_by room (lagging rs lag) ≡ reaches room lag
lags-reaches room rs None h = refl
lags-reaches room rs (Some k) h = ap (nat_le room) (length-lagging rs k h)

-- a subscriber lags by so many where its lag says so
pub any-reaches : (room : ℕ) (rs : List Reference) (lags : List (Option ℕ)) → list_all (is_within (length rs)) lags ≡ true
    → list_any (lags_by room) (map (lagging rs) lags) ≡ list_any (reaches room) lags
any-reaches room rs [] h = refl
any-reaches room rs (lag ∷ lags) h =
    ap₂ (λ a b. a || b) (lags-reaches room rs lag (and_first (is_within (length rs) lag) (list_all (is_within (length rs)) lags) h))
    (any-reaches room rs lags (and_second (is_within (length rs) lag) (list_all (is_within (length rs)) lags) h))

-- where none is there, none is told
pub none-told : (r : Reference) (rs : List Reference) (lags : List (Option ℕ)) → list_any is_some lags ≡ false → map (lagging rs) lags ≡ map (also r) (map (lagging rs) lags)
none-told r rs [] h = refl
none-told r rs (None ∷ lags) h = ap (λ ws. None ∷ ws) (none-told r rs lags h)
none-told r rs (Some k ∷ lags) h = false_true (sym h)

-- one lag, once a reference was pushed
told-one : (room : ℕ) (rs : List Reference) (r : Reference) (k : ℕ) (b : Bool) → nat_le room (length rs) ≡ b → nat_le k (length rs) ≡ true → nat_le room k ≡ false
    → (drop (length ((if b then drop 1 rs else rs) ++ r ∷ []) - (k + 1)) ((if b then drop 1 rs else rs) ++ r ∷ []) ≡ drop (length rs - k) rs ++ r ∷ [])
    × (nat_le (k + 1) (length ((if b then drop 1 rs else rs) ++ r ∷ [])) ≡ true)
told-one room rs r k true h w f =
    let low = leb-false room k f in
    let full = leb-true room (length rs) h in
    let n = length-drop 1 rs in
    let p = length_push (drop 1 rs) r in (
      ap (λ m. drop m (drop 1 rs ++ r ∷ [])) (omega (arith, low, full, n, p))
          ∙ (drop-append-le ((length rs - 1) - k) (drop 1 rs) (r ∷ []) (omega (arith, n))
          ∙ ap (λ ys. ys ++ r ∷ []) (drop-drop ((length rs - 1) - k) 1 rs ∙ ap (λ m. drop m rs) (omega (arith, low, full)))),
      le-leb (k + 1) (length (drop 1 rs ++ r ∷ [])) (omega (arith, low, full, n, p)),
    )
told-one room rs r k false h w f =
    let p = length_push rs r in
    let q = leb-true k (length rs) w in (
      ap (λ m. drop m (rs ++ r ∷ [])) (omega (arith, p, q)) ∙ drop-append-le (length rs - k) rs (r ∷ []) (omega arith),
      le-leb (k + 1) (length (rs ++ r ∷ [])) (omega (arith, p, q)),
    )

-- all lags, once a reference was pushed
pub told : (room : ℕ) (rs : List Reference) (r : Reference) (lags : List (Option ℕ)) → list_all (is_within (length rs)) lags ≡ true → list_any (reaches room) lags ≡ false
    → map (lagging (pushed room rs r)) (map one_more lags) ≡ map (also r) (map (lagging rs) lags)
told room rs r [] w f = refl
told room rs r (None ∷ lags) w f = ap (λ ws. None ∷ ws) (told room rs r lags w f)
told room rs r (Some k ∷ lags) w f =
    ap₂ (λ a b. Some a ∷ b)
    (told-one room rs r k (nat_le room (length rs)) refl (and_first (nat_le k (length rs)) (list_all (is_within (length rs)) lags) w) (or_first (nat_le room k) (list_any (reaches room) lags) f)).0
    (told room rs r lags (and_second (nat_le k (length rs)) (list_all (is_within (length rs)) lags) w) (or_second (nat_le room k) (list_any (reaches room) lags) f))

pub within-told : (room : ℕ) (rs : List Reference) (r : Reference) (lags : List (Option ℕ)) → list_all (is_within (length rs)) lags ≡ true → list_any (reaches room) lags ≡ false
    → list_all (is_within (length (pushed room rs r))) (map one_more lags) ≡ true
within-told room rs r [] w f = refl
within-told room rs r (None ∷ lags) w f = within-told room rs r lags w f
within-told room rs r (Some k ∷ lags) w f =
    and_both (nat_le (k + 1) (length (pushed room rs r))) (list_all (is_within (length (pushed room rs r))) (map one_more lags))
    (told-one room rs r k (nat_le room (length rs)) refl (and_first (nat_le k (length rs)) (list_all (is_within (length rs)) lags) w) (or_first (nat_le room k) (list_any (reaches room) lags) f)).1
    (within-told room rs r lags (and_second (nat_le k (length rs)) (list_all (is_within (length rs)) lags) w) (or_second (nat_le room k) (list_any (reaches room) lags) f))

map-drop-one : {A B : Type 0} (f : A → B) (xs : List A) → map f (drop 1 xs) ≡ drop 1 (map f xs)
map-drop-one f [] = refl
map-drop-one f (x ∷ xs) = refl

-- a reference that is pushed, seen as data
pub map-pushed : {A : Type 0} (f : A → Reference) (room : ℕ) (xs : List A) (x : A) → map f (pushed room xs x) ≡ pushed room (map f xs) (f x)
map-pushed f room xs x =
    go (nat_le room (length xs)) ∙ ap (λ n. (if (nat_le room n) then drop 1 (map f xs) else map f xs) ++ f x ∷ []) (sym (length-map xs f))
  where
    go : (b : Bool) → map f ((if b then drop 1 xs else xs) ++ x ∷ []) ≡ (if b then drop 1 (map f xs) else map f xs) ++ f x ∷ []
    go true = map-append f (drop 1 xs) (x ∷ []) ∙ ap (λ ys. ys ++ f x ∷ []) (map-drop-one f xs)
    go false = map-append f xs (x ∷ [])

-- what is read at a place, seen as data
pub read-map : {A B : Type 0} (f : A → B) (xs : List A) (i : ℕ) (x : A) → x ≡ get_or xs i x → f x ≡ get_or (map f xs) i (f x)
read-map f [] i x e = refl
read-map f (y ∷ xs) zero x e = ap f e
read-map f (y ∷ xs) (suc i) x e = read-map f xs i x e
