-- Objects that are put one after another, in any order, make the state that holds just these.
use Rattle.std.proofs.Common.{◌≡◌, ℕ, ◌<◌, inl, inr, Bool, true, false, cond, List, [], ◌∷◌, ◌++◌, map, fold, filter, length, get_or, Option, Some, None, refl, sym, ap, ◌∙◌, subst, arith}
use Rattle.std.specs.Prelude.{IsPermutation}
use Rattle.std.specs.declared.cmp.Ordering.{Ordering}
use Rattle.std.specs.declared.cmp.Ordering.TheVariants.{Less, Equal, Greater}
use Rattle.std.specs.Ordering.{match_ordering, is_eq, eq_by_cmp}
use Rattle.std.specs.Cmp.{IsTotalOrder, IsEquivalence}
use Rattle.std.specs.List.{All, AllByRecursion, IsDistinct, slice_get, Contains}
use Rattle.std.specs.List.Sorted.{IsStrictlySortedBy}
use Rattle.std.specs.Ordering.{ordering_reverse}
use Rattle.std.proofs.lemmas.Bool.{cases_Bool}
use Rattle.std.specs.Option.{option_or}
use Rattle.std.proofs.lemmas.Cmp.{eq_by_cmp_equiv, tied_itself}
use Rattle.std.proofs.Math.ListN.{get_or-map}
use Rattle.std.proofs.lemmas.List.{length-map}
use Rattle.std.proofs.lemmas.Option.{slice_get_within, get_or_from_slice_get, slice_get-get_or}
use Rattle.std.proofs.lemmas.Map.Entries.{place_from_lookup, lookup_from_place}
use Rattle.std.proofs.lemmas.Map.Keys.{IsDistinct-from_sorted, IsDistinct-IsPermutation}
use Rattle.std.proofs.lemmas.List.Sorted.{IsPermutation-map, IsPermutation-sym, Contains-permutation}
use Rattle.kube_meta.specs.declared.metadata.ObjectMeta.{ObjectMeta}
use Rattle.kube_model.specs.Raw.{RawAnswer, GivesAdded}
use Rattle.kube_server.specs.History.{Key, key_of, key_cmp, same_key, State, object_at, with_object, objects_of}
use Rattle.kube_server.specs.Readers.{after_events, selected_in}
use Rattle.kube_server.proofs.HistoryLemmas.{keys-equal, same-equal, IsKeyed, AllKeyed}
use Rattle.kube_server.proofs.OrderLemmas.{key_total, keys_of, IsBelow, below-all, IsAscending, ascending-with}

-- ---- states with the same look-ups are the same

pub same-itself : (k : Key) → same_key k k ≡ true
same-itself k = ap is_eq (tied_itself key_total k)

pub below-none : {V : Type 0} (q : Key) (es : State V) → IsBelow q (keys_of es) → object_at q es ≡ None
below-none q [] h = refl
below-none q (e ∷ es) h = rw h.0 (below-none q es h.1)

head-found : {V : Type 0} (e : Key × V) (es : State V) → object_at e.0 (e ∷ es) ≡ Some e.1
head-found e es = rw (same-itself e.0) refl

tails-same : {V : Type 0} (e f : Key × V) (es fs : State V) (q : Key) (b : Bool) → same_key q e.0 ≡ b → e.0 ≡ f.0 → IsBelow e.0 (keys_of es) → IsBelow f.0 (keys_of fs) → object_at q (e ∷ es) ≡ object_at q (f ∷ fs) → object_at q es ≡ object_at q fs
tails-same e f es fs q true is k below-e below-f h =
    let here : q ≡ e.0 = same-equal q e.0 is in
    below-none q es (subst (λ x. IsBelow x (keys_of es)) (sym here) below-e) ∙ sym (below-none q fs (subst (λ x. IsBelow x (keys_of fs)) (sym (here ∙ k)) below-f))
tails-same e f es fs q false is k below-e below-f h =
    let other : same_key q f.0 ≡ false = ap (λ x. same_key q x) (sym k) ∙ is in
    let at-e : object_at q (e ∷ es) ≡ object_at q es = rw is refl in
    let at-f : object_at q (f ∷ fs) ≡ object_at q fs = rw other refl in
    sym at-e ∙ (h ∙ at-f)

abbrev SameIf : {V : Type 0} → State V → State V → Type 0
SameIf {V} a b = IsAscending a → IsAscending b → ((q : Key) → object_at q a ≡ object_at q b) → a ≡ b

heads-same : {V : Type 0} (e f : Key × V) (es fs : State V) (r : Ordering) → key_cmp e.0 f.0 ≡ r → SameIf es fs → SameIf (e ∷ es) (f ∷ fs)
unfolding IsStrictlySortedBy
heads-same e f es fs Less er more up-e up-f h =
    let none = below-none e.0 (f ∷ fs) (er, below-all e.0 f.0 (keys_of fs) er up-f.0) in
    let some = head-found e es in
    let both = h e.0 in
    let no : Some e.1 ≡ None = sym some ∙ (both ∙ none) in
    absurd (cc)
heads-same e f es fs Equal er more up-e up-f h =
    let k : e.0 ≡ f.0 = keys-equal e.0 f.0 er in
    let v : Some e.1 ≡ Some f.1 = sym (head-found e es) ∙ (h e.0 ∙ (ap (λ x. object_at x (f ∷ fs)) k ∙ head-found f fs)) in
    let w : e.1 ≡ f.1 = cc in
    let rest : es ≡ fs = more up-e.1 up-f.1 (λ q. tails-same e f es fs q (same_key q e.0) refl k up-e.0 up-f.0 (h q)) in
    λ i. (k i, w i) ∷ rest i
heads-same e f es fs Greater er more up-e up-f h =
    let less : key_cmp f.0 e.0 ≡ Less = key_total.antisymm f.0 e.0 ∙ ap ordering_reverse er in
    let none = below-none f.0 (e ∷ es) (less, below-all f.0 e.0 (keys_of es) less up-e.0) in
    let some = head-found f fs in
    let both = h f.0 in
    let no : Some f.1 ≡ None = sym some ∙ (sym both ∙ none) in
    absurd (cc)

pub states-same : {V : Type 0} (a b : State V) → SameIf a b
states-same [] [] up-a up-b h = refl
states-same [] (f ∷ fs) up-a up-b h =
    let no : None ≡ Some f.1 = h f.0 ∙ head-found f fs in
    absurd (cc)
states-same (e ∷ es) [] up-a up-b h =
    let no : Some e.1 ≡ None = sym (head-found e es) ∙ h e.0 in
    absurd (cc)
states-same (e ∷ es) (f ∷ fs) up-a up-b h = heads-same e f es fs (key_cmp e.0 f.0) refl (states-same es fs) up-a up-b h

-- ---- a look-up after a put

put-over : {V : Type 0} (q key : Key) (object : V) (e : Key × V) (es : State V) (b : Bool) → same_key q key ≡ b → key ≡ e.0
    → cond (same_key q e.0) (Some object) (object_at q es) ≡ cond (same_key q key) (Some object) (cond (same_key q e.0) (Some e.1) (object_at q es))
put-over q key object e es true is k =
    let here : same_key q e.0 ≡ true = ap (λ x. same_key q x) (sym k) ∙ is in
    rw (here, is) refl
put-over q key object e es false is k =
    let here : same_key q e.0 ≡ false = ap (λ x. same_key q x) (sym k) ∙ is in
    rw (here, is) refl

put-behind : {V : Type 0} (q key : Key) (object : V) (e : Key × V) (found : Option V) (a b : Bool) → same_key q e.0 ≡ a → same_key q key ≡ b → key_cmp key e.0 ≡ Greater
    → cond (same_key q e.0) (Some e.1) (cond (same_key q key) (Some object) found) ≡ cond (same_key q key) (Some object) (cond (same_key q e.0) (Some e.1) found)
put-behind q key object e found true true at-e at-key er =
    let k : key ≡ e.0 = sym (same-equal q key at-key) ∙ same-equal q e.0 at-e in
    let equal : key_cmp key e.0 ≡ Equal = ap (λ x. key_cmp x e.0) k ∙ tied_itself key_total e.0 in
    let no : Equal ≡ Greater = sym equal ∙ er in
    absurd (cc)
put-behind q key object e found true false at-e at-key er = rw (at-e, at-key) refl
put-behind q key object e found false b at-e at-key er = rw at-e refl

found-here : {V : Type 0} (q key : Key) (object : V) (e : Key × V) (es : State V) (r : Ordering) → key_cmp key e.0 ≡ r
    → object_at q (with_object key object es) ≡ cond (same_key q key) (Some object) (object_at q es)
    → object_at q (match_ordering r ((key, object) ∷ e ∷ es) ((e.0, object) ∷ es) (e ∷ with_object key object es)) ≡ cond (same_key q key) (Some object) (object_at q (e ∷ es))
found-here q key object e es Less er more = refl
found-here q key object e es Equal er more = put-over q key object e es (same_key q key) refl (keys-equal key e.0 er)
found-here q key object e es Greater er more =
    ap (λ x. cond (same_key q e.0) (Some e.1) x) more ∙ put-behind q key object e (object_at q es) (same_key q e.0) (same_key q key) refl refl er

pub found-put : {V : Type 0} (q key : Key) (object : V) (state : State V) → object_at q (with_object key object state) ≡ cond (same_key q key) (Some object) (object_at q state)
found-put q key object [] = refl
found-put q key object (e ∷ es) = found-here q key object e es (key_cmp key e.0) refl (found-put q key object es)

-- ---- entries that are put, one after another

abbrev pub put_all : {V : Type 0} → State V → List (Key × V) → State V
put_all state es = fold (λ s e. with_object e.0 e.1 s) state es

ascending-put_all : {V : Type 0} (es : List (Key × V)) (state : State V) → IsAscending state → IsAscending (put_all state es)
ascending-put_all [] state up = up
ascending-put_all (e ∷ es) state up = ascending-put_all es (with_object e.0 e.1 state) (ascending-with e.0 e.1 state up)

apart-none : {V : Type 0} (k : Key) (es : State V) → AllByRecursion (λ x. same_key k x ≡ false) (keys_of es) → object_at k es ≡ None
apart-none k [] h = refl
apart-none k (e ∷ es) h = rw h.0 (apart-none k es h.1)

first-found : {V : Type 0} (q : Key) (e : Key × V) (es : State V) (state : State V) (b : Bool) → same_key q e.0 ≡ b → AllByRecursion (λ x. same_key e.0 x ≡ false) (keys_of es)
    → option_or (object_at q es) (object_at q (with_object e.0 e.1 state)) ≡ option_or (object_at q (e ∷ es)) (object_at q state)
first-found q e es state true is apart =
    let none : object_at q es ≡ None = ap (λ x. object_at x es) (same-equal q e.0 is) ∙ apart-none e.0 es apart in
    rw (found-put q e.0 e.1 state, none, is) refl
first-found q e es state false is apart = rw (found-put q e.0 e.1 state, is) refl

found-put_all : {V : Type 0} (q : Key) (es : List (Key × V)) (state : State V) → IsDistinct same_key (keys_of es) → object_at q (put_all state es) ≡ option_or (object_at q es) (object_at q state)
unfolding IsDistinct
found-put_all q [] state apart = refl
found-put_all q (e ∷ es) state apart =
    found-put_all q es (with_object e.0 e.1 state) apart.1 ∙ first-found q e es state (same_key q e.0) refl apart.0

or-none : {V : Type 0} (found : Option V) → option_or found None ≡ found
or-none None = refl
or-none (Some v) = refl

-- ---- in any order

same_keys : IsEquivalence same_key
same_keys = eq_by_cmp_equiv key_total

found-moved : {V : Type 0} (q : Key) (es fs : List (Key × V)) (v : V) → IsPermutation es fs → IsDistinct same_key (keys_of fs) → object_at q es ≡ Some v → object_at q fs ≡ Some v
found-moved q es fs v moved apart found =
    let place = place_from_lookup (same_key q) es v found in
    let here : q ≡ place.1 = same-equal q place.1 place.3 in
    let old : Contains es (place.1, v) = (place.0, slice_get_within es place.0 (place.1, v) place.2, get_or_from_slice_get es place.0 (place.1, v) (place.1, v) place.2) in
    let new : Contains fs (place.1, v) = Contains-permutation es fs (place.1, v) moved old in
    let there : slice_get fs new.0 ≡ Some (place.1, v) = slice_get-get_or fs new.0 (place.1, v) new.1 ∙ ap Some new.2 in
    ap (λ x. object_at x fs) here ∙ lookup_from_place same_keys fs new.0 place.1 v apart there

found-same : {V : Type 0} (q : Key) (es fs : List (Key × V)) (a b : Option V) → IsPermutation es fs → IsDistinct same_key (keys_of es) → IsDistinct same_key (keys_of fs) → object_at q es ≡ a → object_at q fs ≡ b → a ≡ b
found-same q es fs None None moved apart-e apart-f in-e in-f = refl
found-same q es fs None (Some w) moved apart-e apart-f in-e in-f =
    let back = found-moved q fs es w (IsPermutation-sym es fs moved) apart-e in-f in
    sym in-e ∙ back
found-same q es fs (Some v) b moved apart-e apart-f in-e in-f =
    let there = found-moved q es fs v moved apart-f in-e in
    sym there ∙ in-f

-- entries of a state in any order, put one after another, make the state
pub put_all-moved : {V : Type 0} (es : List (Key × V)) (state : State V) → IsPermutation es state → IsAscending state → put_all [] es ≡ state
unfolding IsStrictlySortedBy
put_all-moved {V} es state moved up =
    let apart : IsDistinct same_key (keys_of state) = IsDistinct-from_sorted key_cmp (keys_of state) up in
    let apart-es : IsDistinct same_key (keys_of es) = IsDistinct-IsPermutation same_key same_keys.symm (keys_of state) (keys_of es) (IsPermutation-map (λ p. p.0) state es (IsPermutation-sym es state moved)) apart in
    states-same (put_all [] es) state (ascending-put_all es [] tt) up
    (λ q. found-put_all q es [] apart-es ∙ (or-none (object_at q es) ∙ found-same q es state (object_at q es) (object_at q state) moved apart-es apart refl refl))

-- ---- objects, each under its key

module _ {V : Type 0} (meta : V → ObjectMeta) where
  abbrev pub keyed : List V → List (Key × V)
  keyed objects = map (λ o. (key_of (meta o), o)) objects

  keyed-state-is : (state : State V) → AllKeyed meta state → keyed (objects_of state) ≡ state
  keyed-state-is [] k = refl
  keyed-state-is (e ∷ es) k =
      let more = keyed-state-is es k.1 in
      let key = k.0.key in
      λ i. (sym key i, e.1) ∷ more i

  added-is : (objects : List V) (state : State V) → after_events meta state (map GivesAdded objects) ≡ put_all state (keyed objects)
  added-is [] state = refl
  added-is (o ∷ os) state = added-is os (with_object (key_of (meta o)) o state)

  -- objects that are those of a state, in any order, told as added, make the state
  pub added-makes : (objects : List V) (state : State V) → IsPermutation objects (objects_of state) → AllKeyed meta state → IsAscending state → after_events meta [] (map GivesAdded objects) ≡ state
  added-makes objects state moved k up =
      let entries : IsPermutation (keyed objects) state = subst (λ xs. IsPermutation (keyed objects) xs) (keyed-state-is state k) (IsPermutation-map (λ o. (key_of (meta o), o)) objects (objects_of state) moved) in
      added-is objects [] ∙ put_all-moved (keyed objects) state entries up

  keys-keyed : (objects : List V) → keys_of (keyed objects) ≡ map (λ o. key_of (meta o)) objects
  keys-keyed [] = refl
  keys-keyed (o ∷ os) = ap (λ ks. key_of (meta o) ∷ ks) (keys-keyed os)

  -- no two of them have the same key
  pub apart-keys : (objects : List V) (state : State V) → IsPermutation objects (objects_of state) → AllKeyed meta state → IsAscending state → IsDistinct same_key (map (λ o. key_of (meta o)) objects)
  apart-keys objects state moved k up =
      let entries : IsPermutation (keyed objects) state = subst (λ xs. IsPermutation (keyed objects) xs) (keyed-state-is state k) (IsPermutation-map (λ o. (key_of (meta o), o)) objects (objects_of state) moved) in
      let apart : IsDistinct same_key (keys_of state) = IsDistinct-from_sorted key_cmp (keys_of state) up in
      subst (λ ks. IsDistinct same_key ks) (keys-keyed objects) (IsDistinct-IsPermutation same_key same_keys.symm (keys_of state) (keys_of (keyed objects)) (IsPermutation-map (λ p. p.0) state (keyed objects) (IsPermutation-sym (keyed objects) state entries)) apart)

  -- each stands under its key
  pub objects-found : (state : State V) → AllKeyed meta state → IsAscending state → All (λ o. object_at (key_of (meta o)) state ≡ Some o) (objects_of state)
  objects-found state k up =
      let apart : IsDistinct same_key (keys_of state) = IsDistinct-from_sorted key_cmp (keys_of state) up in
      let entries : All (λ e. object_at e.0 state ≡ Some e.1) state = λ i d within. lookup_from_place same_keys state i (get_or state i d).0 (get_or state i d).1 apart (slice_get-get_or state i d within) in
      let again : All (λ e. object_at e.0 state ≡ Some e.1) (keyed (objects_of state)) = subst (λ es. All (λ e. object_at e.0 state ≡ Some e.1) es) (sym (keyed-state-is state k)) entries in
      λ i d within.
      let at : get_or (keyed (objects_of state)) i (key_of (meta d), d) ≡ (key_of (meta (get_or (objects_of state) i d)), get_or (objects_of state) i d) = get_or-map (λ o. (key_of (meta o), o)) (objects_of state) i d in
      let inside : i < length (keyed (objects_of state)) = omega (arith, length-map {B = Key × V} (objects_of state) (λ o. (key_of (meta o), o)), within) in
      subst (λ e. object_at e.0 state ≡ Some e.1) at (again i (key_of (meta d), d) inside)

-- the selected objects of a state
objects-selected-here : {V : Type 0} (p : V → Bool) (e : Key × V) (es : State V) (b : Bool) → p e.1 ≡ b → filter p (objects_of es) ≡ objects_of (selected_in p es) → filter p (objects_of (e ∷ es)) ≡ objects_of (selected_in p (e ∷ es))
objects-selected-here p e es true is more = rw is (ap (λ xs. e.1 ∷ xs) more)
objects-selected-here p e es false is more = rw is more

pub objects-selected : {V : Type 0} (p : V → Bool) (state : State V) → filter p (objects_of state) ≡ objects_of (selected_in p state)
objects-selected p [] = refl
objects-selected p (e ∷ es) = objects-selected-here p e es (p e.1) refl (objects-selected p es)
