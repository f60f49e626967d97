-- Histories and their states.
use Rattle.std.proofs.Common.{◌≡◌, ℕ, ◌+◌, ◌≤◌, Bool, true, false, List, [], ◌∷◌, ◌++◌, length, fold, Option, Some, None, option_map, unwrap_or, map, refl, sym, ap, ap₂, ◌∙◌, subst, cond, append_assoc, append-nil, arith}
use Rattle.std.specs.Prelude.{decimal, IsSome}
use Rattle.std.specs.declared.cmp.Ordering.{Ordering}
use Rattle.std.specs.declared.cmp.Ordering.TheVariants.{Less, Equal, Greater}
use Rattle.std.specs.Ordering.{nat_cmp, match_ordering, ordering_then, is_eq}
use Rattle.std.specs.Option.{option_cmp}
use Rattle.std.specs.Cmp.Lexicographic.{slice_cmp}
use Rattle.std.specs.Map.{lookup, remove_entry}
use Rattle.std.specs.List.{AllByRecursion}
use Rattle.std.proofs.lemmas.List.Sums.{fold-append}
use Rattle.std.proofs.lemmas.Map.Lookups.{exact_bytes}
use Rattle.kube_meta.specs.declared.metadata.ObjectMeta.{ObjectMeta}
use Rattle.kube_meta.specs.Keys.{is_named}
use Rattle.kube_server.specs.History.{Key, key_of, key_cmp, same_key, State, object_at, with_object, without_object, Change, Adds, Modifies, Removes, object_of, change_seen, changed, state_of, Fits, IsNextChange, IsHistoryAfter, IsHistory}

-- ---- one change more

pub state-more : {V : Type 0} (meta : V → ObjectMeta) (changes : List (Change V)) (change : Change V)
    → state_of meta (changes ++ change ∷ []) ≡ changed meta (state_of meta changes) change
state-more meta changes change = fold-append (changed meta) [] changes (change ∷ [])

history-after-more : {V : Type 0} (meta : V → ObjectMeta) (before changes : List (Change V)) (change : Change V)
    → IsHistoryAfter meta before changes → IsNextChange meta (before ++ changes) change → IsHistoryAfter meta before (changes ++ change ∷ [])
history-after-more meta before [] change h n = (subst (λ b. IsNextChange meta b change) (append-nil before) n, tt)
history-after-more meta before (c ∷ changes) change h n =
    (h.0, history-after-more meta (before ++ c ∷ []) changes change h.1 (subst (λ b. IsNextChange meta b change) (sym (append_assoc before (c ∷ []) changes)) n))

pub history-more : {V : Type 0} (meta : V → ObjectMeta) (changes : List (Change V)) (change : Change V)
    → IsHistory meta changes → IsNextChange meta changes change → IsHistory meta (changes ++ change ∷ [])
history-more meta changes change h n = history-after-more meta [] changes change h n

history-after-next : {V : Type 0} (meta : V → ObjectMeta) (front before after : List (Change V)) (change : Change V)
    → IsHistoryAfter meta front (before ++ change ∷ after) → IsNextChange meta (front ++ before) change
history-after-next meta front [] after change h = subst (λ b. IsNextChange meta b change) (sym (append-nil front)) h.0
history-after-next meta front (c ∷ before) after change h =
    subst (λ b. IsNextChange meta b change) (append_assoc front (c ∷ []) before) (history-after-next meta (front ++ c ∷ []) before after change h.1)

pub history-next : {V : Type 0} (meta : V → ObjectMeta) (before after : List (Change V)) (change : Change V)
    → IsHistory meta (before ++ change ∷ after) → IsNextChange meta before change
history-next meta before after change h = history-after-next meta [] before after change h

history-after-front : {V : Type 0} (meta : V → ObjectMeta) (front before after : List (Change V))
    → IsHistoryAfter meta front (before ++ after) → IsHistoryAfter meta front before
history-after-front meta front [] after h = tt
history-after-front meta front (c ∷ before) after h = (h.0, history-after-front meta (front ++ c ∷ []) before after h.1)

pub history-front : {V : Type 0} (meta : V → ObjectMeta) (before after : List (Change V)) → IsHistory meta (before ++ after) → IsHistory meta before
history-front meta before after h = history-after-front meta [] before after h

-- ---- each object stands under its own key

-- keys that are the same are equal
cmp-texts : (a b : Option (List ℕ)) → option_cmp (slice_cmp nat_cmp) a b ≡ Equal → a ≡ b
cmp-texts None None h = refl
cmp-texts None (Some b) h = cc
cmp-texts (Some a) None h = cc
cmp-texts (Some a) (Some b) h = ap Some (exact_bytes a b h)

then-first : (o q : Ordering) → ordering_then o q ≡ Equal → o ≡ Equal
then-first Less q h = cc
then-first Equal q h = refl
then-first Greater q h = cc

then-second : (o q : Ordering) → ordering_then o q ≡ Equal → q ≡ Equal
then-second Less q h = cc
then-second Equal q h = h
then-second Greater q h = cc

pub keys-equal : (a b : Key) → key_cmp a b ≡ Equal → a ≡ b
keys-equal a b h =
    let ns : a.namespace ≡ b.namespace = cmp-texts a.namespace b.namespace (then-first (option_cmp (slice_cmp nat_cmp) a.namespace b.namespace) (slice_cmp nat_cmp a.name b.name) h) in
    let name : a.name ≡ b.name = exact_bytes a.name b.name (then-second (option_cmp (slice_cmp nat_cmp) a.namespace b.namespace) (slice_cmp nat_cmp a.name b.name) h) in
    λ i. record { namespace = ns i; name = name i }

is_eq-equal : (o : Ordering) → is_eq o ≡ true → o ≡ Equal
is_eq-equal Less h = cc
is_eq-equal Equal h = refl
is_eq-equal Greater h = cc

pub same-equal : (a b : Key) → same_key a b ≡ true → a ≡ b
same-equal a b h = keys-equal a b (is_eq-equal (key_cmp a b) h)

-- an object with a name, under its key
pub record IsKeyed {V : Type 0} (meta : V → ObjectMeta) (p : Key × V) : Type 0 where
  pub key : p.0 ≡ key_of (meta p.1)
  pub named : is_named (meta p.1) ≡ true

abbrev pub AllKeyed : {V : Type 0} → (V → ObjectMeta) → State V → Type 0
AllKeyed meta state = AllByRecursion (IsKeyed meta) state

keyed-match : {V : Type 0} (meta : V → ObjectMeta) (o : Ordering) (a b c : State V)
    → AllKeyed meta a → (o ≡ Equal → AllKeyed meta b) → AllKeyed meta c → AllKeyed meta (match_ordering o a b c)
keyed-match meta Less a b c x y z = x
keyed-match meta Equal a b c x y z = y refl
keyed-match meta Greater a b c x y z = z

keyed-with : {V : Type 0} (meta : V → ObjectMeta) (key : Key) (object : V) (state : State V)
    → IsKeyed meta (key, object) → AllKeyed meta state → AllKeyed meta (with_object key object state)
keyed-with meta key object [] k h = (k, tt)
keyed-with meta key object (p ∷ ps) k h =
    keyed-match meta (key_cmp key p.0) ((key, object) ∷ p ∷ ps) ((p.0, object) ∷ ps) (p ∷ with_object key object ps)
    (k, h)
    (λ e. (record { key = sym (keys-equal key p.0 e) ∙ k.key; named = k.named }, h.1))
    (h.0, keyed-with meta key object ps k h.1)

keyed-cond : {V : Type 0} (meta : V → ObjectMeta) (b : Bool) (x y : State V) → AllKeyed meta x → AllKeyed meta y → AllKeyed meta (cond b x y)
keyed-cond meta true x y h k = h
keyed-cond meta false x y h k = k

keyed-without : {V : Type 0} (meta : V → ObjectMeta) (key : Key) (state : State V)
    → AllKeyed meta state → AllKeyed meta (without_object key state)
keyed-without meta key [] h = tt
keyed-without meta key (p ∷ ps) h = keyed-cond meta (same_key key p.0) ps (p ∷ without_object key ps) h.1 (h.0, keyed-without meta key ps h.1)

pub keyed-changed : {V : Type 0} (meta : V → ObjectMeta) (state : State V) (change : Change V)
    → is_named (meta (object_of change)) ≡ true → AllKeyed meta state → AllKeyed meta (changed meta state change)
keyed-changed meta state (Adds o) n h = keyed-with meta (key_of (meta o)) o state (record { key = refl; named = n }) h
keyed-changed meta state (Modifies o) n h = keyed-with meta (key_of (meta o)) o state (record { key = refl; named = n }) h
keyed-changed meta state (Removes o) n h = keyed-without meta (key_of (meta o)) state h

keyed-folded : {V : Type 0} (meta : V → ObjectMeta) (before changes : List (Change V)) (state : State V)
    → IsHistoryAfter meta before changes → AllKeyed meta state → AllKeyed meta (fold (changed meta) state changes)
keyed-folded meta before [] state h k = k
keyed-folded meta before (c ∷ changes) state h k =
    keyed-folded meta (before ++ c ∷ []) changes (changed meta state c) h.1 (keyed-changed meta state c h.0.named k)

pub keyed-state : {V : Type 0} (meta : V → ObjectMeta) (changes : List (Change V)) → IsHistory meta changes → AllKeyed meta (state_of meta changes)
keyed-state meta changes h = keyed-folded meta [] changes [] h tt

-- what is found under a key is an object of that key
found-when : {V : Type 0} (meta : V → ObjectMeta) (key : Key) (object : V) (p : Key × V) (ps : State V) (b : Bool)
    → same_key key p.0 ≡ b → IsKeyed meta p → (object_at key ps ≡ Some object → IsKeyed meta (key, object))
    → cond b (Some p.1) (object_at key ps) ≡ Some object → IsKeyed meta (key, object)
found-when meta key object p ps true e k more h =
    let one : p.1 ≡ object = ap (λ o. unwrap_or o p.1) h in
    let here : p.0 ≡ key = sym (same-equal key p.0 e) in
    subst (λ q. IsKeyed meta q) (λ i. (here i, one i)) (record { key = k.key; named = k.named })
found-when meta key object p ps false e k more h = more h

found-keyed : {V : Type 0} (meta : V → ObjectMeta) (key : Key) (object : V) (state : State V)
    → AllKeyed meta state → object_at key state ≡ Some object → IsKeyed meta (key, object)
found-keyed meta key object [] k h = cc
found-keyed meta key object (p ∷ ps) k h =
    found-when meta key object p ps (same_key key p.0) refl k.0 (found-keyed meta key object ps k.1) h

pub found-in-history : {V : Type 0} (meta : V → ObjectMeta) (changes : List (Change V)) (key : Key) (object : V)
    → IsHistory meta changes → object_at key (state_of meta changes) ≡ Some object → IsKeyed meta (key, object)
found-in-history meta changes key object h e = found-keyed meta key object (state_of meta changes) (keyed-state meta changes h) e

-- ---- a change of what is there

-- it is no addition
abbrev pub IsOfStored : {V : Type 0} → Change V → Type 0
IsOfStored (Adds object) = ⊥
IsOfStored (Modifies object) = Unit {0}
IsOfStored (Removes object) = Unit {0}

fits-stored : {V : Type 0} (meta : V → ObjectMeta) (state : State V) (change : Change V)
    → IsOfStored change → IsSome (object_at (key_of (meta (object_of change))) state) → Fits meta state change
fits-stored meta state (Adds o) s h = absurd s
fits-stored meta state (Modifies o) s h = h
fits-stored meta state (Removes o) s h = h

-- a change of an object that is held, which keeps its name and its namespace, is the next one
pub next-of-stored : {V : Type 0} (meta : V → ObjectMeta) (changes : List (Change V)) (key : Key) (object : V) (change : Change V)
    → IsHistory meta changes → object_at key (state_of meta changes) ≡ Some object → IsOfStored change
    → (meta (object_of change)).name ≡ (meta object).name → (meta (object_of change)).namespace ≡ (meta object).namespace
    → (meta (object_of change)).resource_version ≡ Some (decimal (length changes + 1))
    → IsNextChange meta changes change
next-of-stored meta changes key object change h e s name namespace version =
    let found = found-in-history meta changes key object h e in
    let same : key_of (meta (object_of change)) ≡ key = (λ i. record { namespace = namespace i; name = unwrap_or (name i) [] }) ∙ sym found.key in
    record {
      named = ap (λ n. is_named (record (meta object) { name = n })) name ∙ found.named;
      versioned = version;
      fits = fits-stored meta (state_of meta changes) change s (subst (λ k. IsSome (object_at k (state_of meta changes))) (sym same) (subst (λ o. IsSome o) (sym e) refl));
    }
