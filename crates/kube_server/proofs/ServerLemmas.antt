-- What a server's calls make of it.
use Rattle.std.proofs.Common.{◌≡◌, ℕ, ◌+◌, ◌≤◌, Bool, true, false, List, [], ◌∷◌, ◌++◌, length, Option, Some, None, Result, Ok, Err, option_map, map, refl, sym, ap, ◌∙◌, subst, cond, arith, length-append}
use Rattle.kube_server.specs.declared.entry.Entry.{Entry}
use Rattle.std.specs.Arc.{arc_value}
use Rattle.std.specs.declared.alloc.Global.{Global}
use Rattle.std.specs.declared.sync.Arc.{Arc}
use Rattle.kube_server.specs.Stored.{change_of}
use Rattle.std.specs.Prelude.{decimal, IsSome, IfSome, IfOk, is_some, unwrap_or, if◌then◌else◌}
use Rattle.kube_meta.specs.declared.metadata.ObjectMeta.{ObjectMeta}
use Rattle.kube_meta.specs.declared.dynamic.DynamicObject.{DynamicObject}
use Rattle.kube_meta.specs.Keys.{is_named, key_of as reference_of_meta}
use Rattle.kube_meta.specs.Reference.{Reference, same_type}
use Rattle.kube_meta.specs.Reading.{ObjectData, seen_object}
use Rattle.kube_api.specs.declared.patch.PatchRefusal.{PatchRefusal}
use Rattle.kube_server.specs.History.{Key, key_of, State, object_at, Change, Adds, Modifies, Removes, object_of, change_seen, changed, state_of, Fits, IsNextChange, IsHistory}
use Rattle.kube_server.specs.Servers.{ServerState, meta_of, data_meta, next_revision, reference_key, held_under, held, IsStep, IsMade, IsAtMostStep, IsHeldAnd, IsPatched, put_over, put_object, put_change, removal, remove_change, deletion, deleting, has_finalizers, is_deleting, is_gone, with_version, read_patched, patch_document, patch_change}
use Rattle.serde_json.specs.Data.{Data}
use Rattle.kube_meta.specs.declared.object_fault.ObjectFault.{ObjectFault}
use Rattle.kube_meta.specs.Reading.{object_data_at}
use Rattle.kube_meta.specs.Writing.{object_data}
use Rattle.kube_api.specs.Patches.{Operation, patched}
use Rattle.kube_server.proofs.PatchLemmas.{patched-named}
use Rattle.kube_server.specs.Serving.{IsServed}
use Rattle.kube_server.proofs.HistoryLemmas.{state-more, history-more, next-of-stored, IsOfStored}

pub served-more : (changes grown : List (Change DynamicObject)) (compacted : ℕ) (objects made : State DynamicObject) (change : Change DynamicObject)
    → IsServed changes compacted objects → IsNextChange meta_of changes change
    → grown ≡ changes ++ change ∷ [] → made ≡ changed meta_of objects change → IsServed grown compacted made
served-more changes grown compacted objects made change s n g m =
    let longer : length (changes ++ change ∷ []) ≡ length changes + 1 = length-append changes (change ∷ []) in
    let within = s.within in
    let all : length grown ≡ length (changes ++ change ∷ []) = ap length g in
    record {
      history = subst (λ cs. IsHistory meta_of cs) (sym g) (history-more meta_of changes change s.history n);
      within = omega (arith, longer, within, all);
      newest = m ∙ (ap (λ o. changed meta_of o change) s.newest ∙ (sym (state-more meta_of changes change) ∙ ap (state_of meta_of) (sym g)));
    }

-- ---- what is seen of changes

pub seen-meta : (c : Change DynamicObject) → meta_of (object_of c) ≡ data_meta (object_of (change_seen seen_object c))
seen-meta (Adds o) = refl
seen-meta (Modifies o) = refl
seen-meta (Removes o) = refl

seen-stored : (c : Change DynamicObject) → IsOfStored (change_seen seen_object c) → IsOfStored c
seen-stored (Adds o) h = h
seen-stored (Modifies o) h = h
seen-stored (Removes o) h = h

-- ---- of what is held

-- it is held under a key, and what is kept there is seen as that
pub record IsKeptAs (s : ServerState) (key : Key) (o : ObjectData) : Type 0 where
  pub object : DynamicObject
  pub kept : object_at key (state_of meta_of s.changes) ≡ Some object
  pub seen : seen_object object ≡ o

kept-when : (s : ServerState) (key : Key) (o : ObjectData) (found : Option DynamicObject)
    → object_at key (state_of meta_of s.changes) ≡ found → option_map seen_object found ≡ Some o → IsKeptAs s key o
kept-when s key o None e h = absurd (no_some h)
  where
    no_some : None ≡ Some o → ⊥
    no_some h = cc
kept-when s key o (Some object) e h = record { object = object; kept = e; seen = ap (λ x. unwrap x) h }
  where
    unwrap : Option ObjectData → ObjectData
    unwrap None = o
    unwrap (Some x) = x

held-when : (s : ServerState) (key : Key) (o : ObjectData) (b : Bool) → (if b then held_under s key else None) ≡ Some o → IsKeptAs s key o
held-when s key o true h = kept-when s key o (object_at key (state_of meta_of s.changes)) refl h
held-when s key o false h = absurd (no_some h)
  where
    no_some : None ≡ Some o → ⊥
    no_some h = cc

pub held-kept : (s : ServerState) (r : Reference) (o : ObjectData) → held s r ≡ Some o → IsKeptAs s (reference_key r) o
held-kept s r o h = held-when s (reference_key r) o (same_type r.kind s.kind) h

-- a change of the object that is held, which keeps its name and its namespace, is the next one
pub next-of-held : (s : ServerState) (r : Reference) (o : ObjectData) (c : Change DynamicObject) (d : Change ObjectData)
    → IsHistory meta_of s.changes → held s r ≡ Some o → change_seen seen_object c ≡ d → IsOfStored d
    → (data_meta (object_of d)).name ≡ o.metadata.name → (data_meta (object_of d)).namespace ≡ o.metadata.namespace
    → (data_meta (object_of d)).resource_version ≡ Some (decimal (next_revision s))
    → IsNextChange meta_of s.changes c
next-of-held s r o c d h e seen stored name namespace version =
    let k = held-kept s r o e in
    let meta : meta_of (object_of c) ≡ data_meta (object_of d) = seen-meta c ∙ ap (λ x. data_meta (object_of x)) seen in
    let old : o.metadata ≡ meta_of k.object = ap (λ x. x.metadata) (sym k.seen) in
    next-of-stored meta_of s.changes (reference_key r) k.object c h k.kept (seen-stored c (subst IsOfStored (sym seen) stored))
    (ap (λ m. m.name) meta ∙ (name ∙ ap (λ m. m.name) old))
    (ap (λ m. m.namespace) meta ∙ (namespace ∙ ap (λ m. m.namespace) old))
    (ap (λ m. m.resource_version) meta ∙ version)

-- what holds of the object that is held
pub held-and : (found : Option ObjectData) (o : ObjectData) (P : ObjectData → Type 0) → found ≡ Some o → P o → IsHeldAnd found P
held-and found o P e p = subst (λ f. IsHeldAnd f P) (sym e) p

-- ---- the clauses of calls

pub made-of-held : (old new : ServerState) (found : Option ObjectData) (f : ObjectData → Change ObjectData) (c : Change DynamicObject)
    → IsHeldAnd found (λ o. change_seen seen_object c ≡ f o) → new ≡ record old { changes = old.changes ++ c ∷ [] } → IsMade old new (option_map f found)
made-of-held old new None f c h e = absurd h
made-of-held old new (Some o) f c h e = record { made = c; seen = h; grown = e }

-- what follows of it holds too
pub held-map : (found : Option ObjectData) (P Q : ObjectData → Type 0) → ((o : ObjectData) → P o → Q o) → IsHeldAnd found P → IsHeldAnd found Q
held-map None P Q f h = absurd h
held-map (Some o) P Q f h = f o h

pub step-of : (old new : ServerState) (c : Change DynamicObject) (d : Change ObjectData)
    → change_seen seen_object c ≡ d → new ≡ record old { changes = old.changes ++ c ∷ [] } → IsStep old new d
step-of old new c d seen grown = record { made = c; seen = seen; grown = grown }

pub at-most-step : (old new : ServerState) (c : Change DynamicObject) (d : Option (Change ObjectData))
    → Some (change_seen seen_object c) ≡ d → new ≡ record old { changes = old.changes ++ c ∷ [] } → IsAtMostStep old new d
at-most-step old new c d seen grown = subst (λ x. IsAtMostStep old new x) seen (step-of old new c (change_seen seen_object c) refl grown)

pub no-step : (s : ServerState) (d : Option (Change ObjectData)) → None ≡ d → IsAtMostStep s s d
no-step s d e = subst (λ x. IsAtMostStep s s x) e refl

pub patched-step : (old new : ServerState) (c : Change DynamicObject) (d : Result (Change ObjectData) PatchRefusal)
    → d ≡ Ok (change_seen seen_object c) → new ≡ record old { changes = old.changes ++ c ∷ [] } → IsPatched old new d
patched-step old new c d seen grown = subst (λ x. IsPatched old new x) (sym seen) (step-of old new c (change_seen seen_object c) refl grown)

-- ---- deletions

-- a change of this object, at this revision
pub record IsChangeOf (r : ℕ) (o : ObjectData) (d : Change ObjectData) : Type 0 where
  pub stored : IsOfStored d
  pub name : (data_meta (object_of d)).name ≡ o.metadata.name
  pub namespace : (data_meta (object_of d)).namespace ≡ o.metadata.namespace
  pub version : (data_meta (object_of d)).resource_version ≡ Some (decimal r)

abbrev pub AllOf : (Change ObjectData → Type 0) → Option (Change ObjectData) → Type 0
AllOf P None = Unit {0}
AllOf P (Some d) = P d

all-when : (P : Change ObjectData → Type 0) (f g : Bool) (x y : Change ObjectData)
    → P x → P y → AllOf P (if f then (if g then None else Some x) else Some y)
all-when P true true x y h k = tt
all-when P true false x y h k = h
all-when P false g x y h k = k

deletion-is : (r now : ℕ) (o : ObjectData) → AllOf (IsChangeOf r o) (deletion r now o)
deletion-is r now o =
    all-when (IsChangeOf r o) (has_finalizers o.metadata) (is_deleting o.metadata) (Modifies (deleting r now o)) (removal r o)
    (record { stored = tt; name = refl; namespace = refl; version = refl })
    (record { stored = tt; name = refl; namespace = refl; version = refl })

pub next-of-deletion : (s : ServerState) (r : Reference) (o : ObjectData) (now : ℕ) (c : Change DynamicObject)
    → IsHistory meta_of s.changes → held s r ≡ Some o → Some (change_seen seen_object c) ≡ deletion (next_revision s) now o
    → IsNextChange meta_of s.changes c
next-of-deletion s r o now c h e seen =
    let is : IsChangeOf (next_revision s) o (change_seen seen_object c) =
    subst (λ d. AllOf (IsChangeOf (next_revision s) o) d) (sym seen) (deletion-is (next_revision s) now o) in
    next-of-held s r o c (change_seen seen_object c) h e refl is.stored is.name is.namespace is.version

-- ---- puts

fits-adds : (state : State DynamicObject) (c : Change DynamicObject) (x : ObjectData)
    → change_seen seen_object c ≡ Adds x → object_at (key_of (meta_of (object_of c))) state ≡ None → Fits meta_of state c
fits-adds state (Adds o) x seen h = h
fits-adds state (Modifies o) x seen h = absurd (differ seen)
  where
    differ : Modifies (seen_object o) ≡ Adds x → ⊥
    differ e = cc
fits-adds state (Removes o) x seen h = absurd (differ seen)
  where
    differ : Removes (seen_object o) ≡ Adds x → ⊥
    differ e = cc

fits-modifies : (state : State DynamicObject) (c : Change DynamicObject) (x : ObjectData)
    → change_seen seen_object c ≡ Modifies x → IsSome (object_at (key_of (meta_of (object_of c))) state) → Fits meta_of state c
fits-modifies state (Adds o) x seen h = absurd (differ seen)
  where
    differ : Adds (seen_object o) ≡ Modifies x → ⊥
    differ e = cc
fits-modifies state (Modifies o) x seen h = h
fits-modifies state (Removes o) x seen h = h

-- what was put is named as the object, and has its revision
record IsPut (r : ℕ) (o : ObjectData) (c : Change DynamicObject) : Type 0 where
  pub name : (meta_of (object_of c)).name ≡ o.metadata.name
  pub namespace : (meta_of (object_of c)).namespace ≡ o.metadata.namespace
  pub version : (meta_of (object_of c)).resource_version ≡ Some (decimal r)

put-is : (r : ℕ) (stored : Option ObjectData) (o : ObjectData) (c : Change DynamicObject)
    → change_seen seen_object c ≡ put_over r stored o → IsPut r o c
put-is r None o c seen =
    let meta = seen-meta c ∙ ap (λ x. data_meta (object_of x)) seen in
    record { name = ap (λ m. m.name) meta; namespace = ap (λ m. m.namespace) meta; version = ap (λ m. m.resource_version) meta }
put-is r (Some old) o c seen =
    let meta = seen-meta c ∙ ap (λ x. data_meta (object_of x)) seen in
    record { name = ap (λ m. m.name) meta; namespace = ap (λ m. m.namespace) meta; version = ap (λ m. m.resource_version) meta }

put-fits : (state : State DynamicObject) (found : Option DynamicObject) (r : ℕ) (o : ObjectData) (c : Change DynamicObject)
    → change_seen seen_object c ≡ put_over r (option_map seen_object found) o → object_at (key_of (meta_of (object_of c))) state ≡ found → Fits meta_of state c
put-fits state None r o c seen h = fits-adds state c (put_object r None o) seen h
put-fits state (Some old) r o c seen h =
    fits-modifies state c (put_object r (Some (seen_object old)) o) seen (subst (λ x. IsSome x) (sym h) refl)

pub next-of-put : (s : ServerState) (o : ObjectData) (c : Change DynamicObject)
    → is_named o.metadata ≡ true → change_seen seen_object c ≡ put_change s (key_of o.metadata) o → IsNextChange meta_of s.changes c
next-of-put s o c named seen =
    let is = put-is (next_revision s) (held_under s (key_of o.metadata)) o c seen in
    let key : key_of o.metadata ≡ key_of (meta_of (object_of c)) =
    λ i. record { namespace = (sym is.namespace) i; name = unwrap_or ((sym is.name) i) [] } in
    record {
      named = ap (λ n. is_some n) is.name ∙ named;
      versioned = is.version;
      fits = put-fits (state_of meta_of s.changes) (object_at (key_of o.metadata) (state_of meta_of s.changes)) (next_revision s) o c seen
          (ap (λ k. object_at k (state_of meta_of s.changes)) (sym key));
    }

-- what is found in the map is what is held under its key
pub found-held : (s : ServerState) (key : Key) (objects : State DynamicObject) (found : Option DynamicObject)
    → found ≡ object_at key objects → objects ≡ state_of meta_of s.changes → option_map seen_object found ≡ held_under s key
found-held s key objects found h e = ap (option_map seen_object) (h ∙ ap (object_at key) e)

-- the entry of a deletion, where there is one, is the next change
pub deletion-fits : (s : ServerState) (r : Reference) (o : ObjectData) (now : ℕ) (e : Option Entry)
    → IsHistory meta_of s.changes → held s r ≡ Some o
    → option_map (λ x. change_seen seen_object (change_of x)) e ≡ deletion (next_revision s) now o
    → IfSome e (λ x. IsNextChange meta_of s.changes (change_of x))
deletion-fits s r o now None h e seen = tt
deletion-fits s r o now (Some x) h e seen = next-of-deletion s r o now (change_of x) h e seen

map-twice : {A B C : Type 0} (f : B → C) (g : A → B) (x : Option A) → option_map (λ a. f (g a)) x ≡ option_map f (option_map g x)
map-twice f g None = refl
map-twice f g (Some a) = refl

-- a shared object that is found in the map is what is held under its key
pub shared-held : (s : ServerState) (key place : Key) (objects : State DynamicObject) (found : Option (Arc DynamicObject Global))
    → option_map arc_value found ≡ object_at place objects → place ≡ key → objects ≡ state_of meta_of s.changes
    → option_map (λ a. seen_object (arc_value a)) found ≡ held_under s key
shared-held s key place objects found h k e =
    map-twice seen_object arc_value found ∙ found-held s key objects (option_map arc_value found) (h ∙ ap (λ q. object_at q objects) k) e

-- ---- patches

gone-when : (r : ℕ) (o p : ObjectData) (b : Bool) → p.metadata.name ≡ o.metadata.name → p.metadata.namespace ≡ o.metadata.namespace
    → IsChangeOf r o (if b then removal r p else Modifies (with_version r p))
gone-when r o p true n ns = record { stored = tt; name = n; namespace = ns; version = refl }
gone-when r o p false n ns = record { stored = tt; name = n; namespace = ns; version = refl }

abbrev IsOkOf : {A E : Type 0} → (A → Type 0) → Result A E → Type 0
IsOkOf P (Ok a) = P a
IsOkOf P (Err e) = Unit {0}

read-is : (r : ℕ) (os : List Operation) (o : ObjectData) (e : Data) (read : Result ObjectData ObjectFault)
    → patched os (object_data o) ≡ Ok e → object_data_at e ≡ read → IsOkOf (IsChangeOf r o) (read_patched r read)
read-is r os o e (Err f) h k = tt
read-is r os o e (Ok p) h k =
    let same = patched-named os o p e h k in gone-when r o p (is_gone p.metadata) same.name same.namespace

document-is : (r : ℕ) (os : List Operation) (o : ObjectData) (document : Result Data PatchRefusal)
    → patched os (object_data o) ≡ document → IsOkOf (IsChangeOf r o) (patch_document r document)
document-is r os o (Err e) h = tt
document-is r os o (Ok e) h = read-is r os o e (object_data_at e) h refl

patch-is : (r : ℕ) (os : List Operation) (o : ObjectData) → IsOkOf (IsChangeOf r o) (patch_change r os o)
patch-is r os o = document-is r os o (patched os (object_data o)) refl

pub next-of-patch : (s : ServerState) (r : Reference) (o : ObjectData) (os : List Operation) (c : Change DynamicObject)
    → IsHistory meta_of s.changes → held s r ≡ Some o → patch_change (next_revision s) os o ≡ Ok (change_seen seen_object c)
    → IsNextChange meta_of s.changes c
next-of-patch s r o os c h e seen =
    let is : IsChangeOf (next_revision s) o (change_seen seen_object c) =
    subst (λ d. IsOkOf (IsChangeOf (next_revision s) o) d) seen (patch-is (next_revision s) os o) in
    next-of-held s r o c (change_seen seen_object c) h e refl is.stored is.name is.namespace is.version

pub ok-map : {A E : Type 0} (r : Result A E) (P Q : A → Type 0) → ((a : A) → P a → Q a) → IfOk r P → IfOk r Q
ok-map (Ok a) P Q f h = f a h
ok-map (Err e) P Q f h = tt
