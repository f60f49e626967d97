-- What is found after one change more, and logs that go on.
use Rattle.std.proofs.Common.{◌≡◌, ℕ, ◌≤◌, Bool, true, false, cond, List, [], ◌∷◌, ◌++◌, length, Option, Some, None, Result, Ok, Err, option_map, refl, sym, ap, subst, ◌∙◌, arith}
use Rattle.std.proofs.lemmas.List.{take-append-le}
use Rattle.std.specs.List.Sorted.{IsStrictlySortedBy}
use Rattle.kube_meta.specs.declared.metadata.ObjectMeta.{ObjectMeta}
use Rattle.kube_meta.specs.declared.dynamic.DynamicObject.{DynamicObject}
use Rattle.kube_meta.specs.Reading.{ObjectData, seen_object}
use Rattle.kube_api.specs.declared.patch.PatchRefusal.{PatchRefusal}
use Rattle.kube_api.specs.Patches.{Operation}
use Rattle.kube_api.specs.ObjectTalk.{ObjectCall, PatchAsked, DeleteAsked}
use Rattle.kube_server.specs.History.{Key, key_of, same_key, State, object_at, without_object, Change, Adds, Modifies, Removes, change_seen, changed, state_of, state_at, found_after, IsLater}
use Rattle.kube_server.specs.Servers.{ServerState, meta_of, data_meta, next_revision, held, held_under, IsStep, IsAtMostStep, deletion, patch_change}
use Rattle.kube_server.specs.ObjectCalls.{reference_in, IsPatchedOrKept, IsLeftByPatch, IsLeftByDelete, IsLeftByCall}
use Rattle.kube_server.proofs.HistoryLemmas.{same-equal, state-more}
use Rattle.kube_server.proofs.LaterLemmas.{later_same}
use Rattle.kube_server.proofs.OrderLemmas.{keys_of, IsBelow, IsAscending, states-ascend}
use Rattle.kube_server.proofs.WholeLemmas.{same-itself, below-none, found-put}

-- ---- a look-up after a removal

without-here : {V : Type 0} (q key : Key) (e : Key × V) (es : State V) (b : Bool) → same_key q key ≡ b → key ≡ e.0 → IsBelow e.0 (keys_of es)
    → object_at q es ≡ cond (same_key q key) None (cond (same_key q e.0) (Some e.1) (object_at q es))
without-here q key e es true is k below =
    let none : object_at q es ≡ None = below-none q es (subst (λ x. IsBelow x (keys_of es)) (sym (same-equal q key is ∙ k)) below) in
    rw is none
without-here q key e es false is k below =
    let other : same_key q e.0 ≡ false = ap (λ x. same_key q x) (sym k) ∙ is in
    rw (is, other) refl

without-behind : {V : Type 0} (q key : Key) (e : Key × V) (found : Option V) (a b : Bool) → same_key q e.0 ≡ a → same_key q key ≡ b → same_key key e.0 ≡ false
    → cond (same_key q e.0) (Some e.1) (cond (same_key q key) None found) ≡ cond (same_key q key) None (cond (same_key q e.0) (Some e.1) found)
without-behind q key e found true true at-e at-key other =
    let k : key ≡ e.0 = sym (same-equal q key at-key) ∙ same-equal q e.0 at-e in
    let here : same_key key e.0 ≡ true = ap (λ x. same_key x e.0) k ∙ same-itself e.0 in
    let no : true ≡ false = sym here ∙ other in
    absurd (cc)
without-behind q key e found true false at-e at-key other = rw (at-e, at-key) refl
without-behind q key e found false b at-e at-key other = rw at-e refl

without-step : {V : Type 0} (q key : Key) (e : Key × V) (es : State V) (b : Bool) → same_key key e.0 ≡ b → IsBelow e.0 (keys_of es)
    → object_at q (without_object key es) ≡ cond (same_key q key) None (object_at q es)
    → object_at q (cond b es (e ∷ without_object key es)) ≡ cond (same_key q key) None (object_at q (e ∷ es))
without-step q key e es true is below more = without-here q key e es (same_key q key) refl (same-equal key e.0 is) below
without-step q key e es false is below more =
    ap (λ x. cond (same_key q e.0) (Some e.1) x) more ∙ without-behind q key e (object_at q es) (same_key q e.0) (same_key q key) refl refl is

either-none : {V : Type 0} (found : Option V) (b : Bool) → found ≡ None → found ≡ cond b None found
either-none found true e = e
either-none found false e = refl

found-without : {V : Type 0} (q key : Key) (state : State V) → IsAscending state → object_at q (without_object key state) ≡ cond (same_key q key) None (object_at q state)
unfolding IsStrictlySortedBy
found-without q key [] up = either-none _ (same_key q key) refl
found-without q key (e ∷ es) up = without-step q key e es (same_key key e.0) refl up.0 (found-without q key es up.1)

-- ---- a look-up after any change

found-changed : {V : Type 0} (meta : V → ObjectMeta) (q : Key) (state : State V) (change : Change V) → IsAscending state → object_at q (changed meta state change) ≡ found_after meta q (object_at q state) change
found-changed meta q state (Adds o) up = found-put q (key_of (meta o)) o state
found-changed meta q state (Modifies o) up = found-put q (key_of (meta o)) o state
found-changed meta q state (Removes o) up = found-without q (key_of (meta o)) state up

pub found-more : {V : Type 0} (meta : V → ObjectMeta) (q : Key) (changes : List (Change V)) (change : Change V)
    → object_at q (state_of meta (changes ++ change ∷ [])) ≡ found_after meta q (object_at q (state_of meta changes)) change
found-more meta q changes change = ap (object_at q) (state-more meta changes change) ∙ found-changed meta q (state_of meta changes) change (states-ascend meta changes)

-- ---- what a server holds after one change more

map-cond : {A B : Type 0} (f : A → B) (b : Bool) (x y : Option A) → option_map f (cond b x y) ≡ cond b (option_map f x) (option_map f y)
map-cond f true x y = refl
map-cond f false x y = refl

seen-after : (q : Key) (found : Option DynamicObject) (change : Change DynamicObject)
    → option_map seen_object (found_after meta_of q found change) ≡ found_after data_meta q (option_map seen_object found) (change_seen seen_object change)
seen-after q found (Adds o) = map-cond seen_object (same_key q (key_of o.metadata)) (Some o) found
seen-after q found (Modifies o) = map-cond seen_object (same_key q (key_of o.metadata)) (Some o) found
seen-after q found (Removes o) = map-cond seen_object (same_key q (key_of o.metadata)) None found

pub held-after : (old new : ServerState) (change : Change ObjectData) (q : Key) → IsStep old new change → held_under new q ≡ found_after data_meta q (held_under old q) change
held-after old new change q step =
    ap (λ s. option_map seen_object (object_at q (state_of meta_of s.changes))) step.grown
    ∙ (ap (option_map seen_object) (found-more meta_of q old.changes step.made)
    ∙ (seen-after q (object_at q (state_of meta_of old.changes)) step.made
    ∙ ap (found_after data_meta q (held_under old q)) step.seen))

-- ---- logs that go on

pub state-later : {V : Type 0} (meta : V → ObjectMeta) (a b : List (Change V)) (m n r : ℕ) → IsLater a b m n → r ≤ length a → state_at meta b r ≡ state_at meta a r
state-later meta a b m n r h within = ap (λ cs. state_at meta cs r) h.goes_on ∙ ap (state_of meta) (take-append-le r a h.more within)

step-later : (old new : ServerState) (change : Change ObjectData) → IsStep old new change → IsLater old.changes new.changes old.compacted new.compacted
step-later old new change step =
    let compacted : new.compacted ≡ old.compacted = ap (λ s. s.compacted) step.grown in
    record { more = step.made ∷ []; goes_on = ap (λ s. s.changes) step.grown; rises = omega (arith, compacted) }

still-later : (old new : ServerState) → new ≡ old → IsLater old.changes new.changes old.compacted new.compacted
still-later old new e = subst (λ s. IsLater old.changes s.changes old.compacted s.compacted) (sym e) (later_same old.changes old.compacted)

patched-later : (old new : ServerState) (x : Result (Change ObjectData) PatchRefusal) → IsPatchedOrKept old new x → IsLater old.changes new.changes old.compacted new.compacted
patched-later old new (Ok change) h = step-later old new change h
patched-later old new (Err refusal) h = still-later old new h

patch-later : (old new : ServerState) (os : List Operation) (found : Option ObjectData) → IsLeftByPatch old new os found → IsLater old.changes new.changes old.compacted new.compacted
patch-later old new os None h = still-later old new h
patch-later old new os (Some o) h = patched-later old new (patch_change (next_revision old) os o) h

at-most-later : (old new : ServerState) (x : Option (Change ObjectData)) → IsAtMostStep old new x → IsLater old.changes new.changes old.compacted new.compacted
at-most-later old new None h = still-later old new h
at-most-later old new (Some change) h = step-later old new change h

delete-later : (old new : ServerState) (now : ℕ) (found : Option ObjectData) → IsLeftByDelete old new now found → IsLater old.changes new.changes old.compacted new.compacted
delete-later old new now None h = still-later old new h
delete-later old new now (Some o) h = at-most-later old new (deletion (next_revision old) now o) h

pub call-later : (old : ServerState) (namespace : Option (List ℕ)) (now : ℕ) (call : ObjectCall) (new : ServerState) → IsLeftByCall old namespace now call new
    → IsLater old.changes new.changes old.compacted new.compacted
call-later old namespace now (PatchAsked name os) new h = patch-later old new os (held old (reference_in old namespace name)) h
call-later old namespace now (DeleteAsked name) new h = delete-later old new now (held old (reference_in old namespace name)) h
