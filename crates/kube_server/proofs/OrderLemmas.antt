-- States are in the order of their keys.
use Rattle.std.proofs.Common.{◌≡◌, ℕ, Bool, true, false, List, [], ◌∷◌, Option, map, fold, refl, sym, ap, ◌∙◌, cond}
use Rattle.std.specs.declared.cmp.Ordering.{Ordering}
use Rattle.std.specs.declared.cmp.Ordering.TheVariants.{Less, Equal, Greater}
use Rattle.std.specs.Ordering.{match_ordering, ordering_reverse}
use Rattle.std.specs.Cmp.{IsTotalOrder}
use Rattle.std.specs.Cmp.Lexicographic.{options_total}
use Rattle.std.specs.List.{AllByRecursion}
use Rattle.std.specs.List.Sorted.{IsStrictlySortedBy}
use Rattle.std.proofs.lemmas.Cmp.{on_total, then_total, nat_list_cmp_total}
use Rattle.kube_meta.specs.declared.metadata.ObjectMeta.{ObjectMeta}
use Rattle.kube_server.specs.History.{Key, key_of, key_cmp, same_key, State, with_object, without_object, Change, Adds, Modifies, Removes, changed, state_of}

pub key_total : IsTotalOrder key_cmp
key_total =
    then_total (on_total (λ (k : Key). k.namespace) (options_total nat_list_cmp_total)) (on_total (λ (k : Key). k.name) nat_list_cmp_total)

abbrev pub keys_of : {V : Type 0} → State V → List Key
keys_of state = map (λ p. p.0) state

-- a key comes before all of these
abbrev pub IsBelow : Key → List Key → Type 0
IsBelow key keys = AllByRecursion (λ k. key_cmp key k ≡ Less) keys

pub below-all : (a b : Key) (keys : List Key) → key_cmp a b ≡ Less → IsBelow b keys → IsBelow a keys
below-all a b [] e h = tt
below-all a b (k ∷ ks) e h = (key_total.trans a b k e h.0, below-all a b ks e h.1)

below-match : {V : Type 0} (a : Key) (o : Ordering) (x y z : State V) → IsBelow a (keys_of x) → IsBelow a (keys_of y) → IsBelow a (keys_of z) → IsBelow a (keys_of (match_ordering o x y z))
below-match a Less x y z f g h = f
below-match a Equal x y z f g h = g
below-match a Greater x y z f g h = h

below-with : {V : Type 0} (a key : Key) (object : V) (state : State V) → key_cmp a key ≡ Less → IsBelow a (keys_of state) → IsBelow a (keys_of (with_object key object state))
below-with a key object [] e h = (e, tt)
below-with a key object (p ∷ ps) e h =
    below-match a (key_cmp key p.0) ((key, object) ∷ p ∷ ps) ((p.0, object) ∷ ps) (p ∷ with_object key object ps) (e, h) h (h.0, below-with a key object ps e h.1)

below-cond : {V : Type 0} (a : Key) (b : Bool) (x y : State V) → IsBelow a (keys_of x) → IsBelow a (keys_of y) → IsBelow a (keys_of (cond b x y))
below-cond a true x y f g = f
below-cond a false x y f g = g

below-without : {V : Type 0} (a key : Key) (state : State V) → IsBelow a (keys_of state) → IsBelow a (keys_of (without_object key state))
below-without a key [] h = tt
below-without a key (p ∷ ps) h = below-cond a (same_key key p.0) ps (p ∷ without_object key ps) h.1 (h.0, below-without a key ps h.1)

abbrev pub IsAscending : {V : Type 0} → State V → Type 0
IsAscending state = IsStrictlySortedBy key_cmp (keys_of state)

ascending-match : {V : Type 0} (key : Key) (object : V) (p : Key × V) (ps : State V) (o : Ordering) → key_cmp key p.0 ≡ o
    → IsAscending (p ∷ ps) → IsAscending (with_object key object ps)
    → IsAscending (match_ordering o ((key, object) ∷ p ∷ ps) ((p.0, object) ∷ ps) (p ∷ with_object key object ps))
unfolding IsStrictlySortedBy
ascending-match key object p ps Less e h more = ((e, below-all key p.0 (keys_of ps) e h.0), h)
ascending-match key object p ps Equal e h more = h
ascending-match key object p ps Greater e h more =
    (below-with p.0 key object ps (key_total.antisymm p.0 key ∙ ap ordering_reverse e) h.0, more)

pub ascending-with : {V : Type 0} (key : Key) (object : V) (state : State V) → IsAscending state → IsAscending (with_object key object state)
unfolding IsStrictlySortedBy
ascending-with key object [] h = (tt, tt)
ascending-with key object (p ∷ ps) h = ascending-match key object p ps (key_cmp key p.0) refl h (ascending-with key object ps h.1)

ascending-cond : {V : Type 0} (b : Bool) (x y : State V) → IsAscending x → IsAscending y → IsAscending (cond b x y)
ascending-cond true x y f g = f
ascending-cond false x y f g = g

ascending-without : {V : Type 0} (key : Key) (state : State V) → IsAscending state → IsAscending (without_object key state)
unfolding IsStrictlySortedBy
ascending-without key [] h = tt
ascending-without key (p ∷ ps) h =
    ascending-cond (same_key key p.0) ps (p ∷ without_object key ps) h.1 (below-without p.0 key ps h.0, ascending-without key ps h.1)

pub ascending-changed : {V : Type 0} (meta : V → ObjectMeta) (state : State V) (change : Change V) → IsAscending state → IsAscending (changed meta state change)
ascending-changed meta state (Adds o) h = ascending-with (key_of (meta o)) o state h
ascending-changed meta state (Modifies o) h = ascending-with (key_of (meta o)) o state h
ascending-changed meta state (Removes o) h = ascending-without (key_of (meta o)) state h

ascending-folded : {V : Type 0} (meta : V → ObjectMeta) (changes : List (Change V)) (state : State V) → IsAscending state → IsAscending (fold (changed meta) state changes)
ascending-folded meta [] state h = h
ascending-folded meta (c ∷ changes) state h = ascending-folded meta changes (changed meta state c) (ascending-changed meta state c h)

pub states-ascend : {V : Type 0} (meta : V → ObjectMeta) (changes : List (Change V)) → IsAscending (state_of meta changes)
unfolding IsStrictlySortedBy
states-ascend meta changes = ascending-folded meta changes [] tt
