-- What the calls of a server make of the object of a life.
use Rattle.std.proofs.Common.{◌≡◌, ℕ, ◌&&◌, List, [], ◌∷◌, ◌++◌, Option, Some, None, Result, Ok, Err, Bool, true, false, cond, is_some, option_map, decimal, refl, sym, ap, ◌∙◌, subst, true≢false}
use Rattle.std.specs.Prelude.{unwrap_or}
use Rattle.std.proofs.lemmas.List.Sums.{fold-append}
use Rattle.std.proofs.lemmas.Slice.Eq.{bytes_eq-Decides}
use Rattle.serde_json.specs.Data.{Data, object, no_members}
use Rattle.kube_meta.specs.declared.dynamic.DynamicObject.{DynamicObject}
use Rattle.kube_meta.specs.Reading.{ObjectData, seen_object}
use Rattle.kube_meta.specs.Reference.{Reference, ObjectType, same_type}
use Rattle.kube_meta.specs.Writing.{content_members}
use Rattle.kube_api.specs.declared.patch.PatchRefusal.{PatchRefusal}
use Rattle.kube_api.specs.declared.patch.PatchRefusal.TheVariants.{TestFailed, NoMemory}
use Rattle.kube_api.specs.Patches.{Operation, Changes, Puts, patched}
use Rattle.kube_server.specs.History.{Change, Adds, Modifies, Removes, State, key_of, object_at, object_of, with_object, without_object, changed, change_seen, state_of as objects_after}
use Rattle.kube_server.specs.Servers.{ServerState, meta_of, next_revision, reference_key, held_under, held, IsStep, IsAtMostStep, IsHeldAnd, IsPatched, with_version, removal, deletion, deleting, is_gone, patch_result, read_patched, patch_document, patch_change, IsPatchRefusal, IsOfHeld, RefusesAs}
use Rattle.kube_final.specs.declared.life.LifeState.{LifeState}
use Rattle.kube_final.specs.Finalizers.{names_data, list_path}
use Rattle.kube_final.specs.Lives.{Decided, arrived, is_empty, patched_by, state_of}
use Rattle.kube_final.specs.Playing.{object_key, plain_object, IsSeenAs, IsHeldAs, Serves, IsPatchOf}
use Rattle.kube_final.proofs.Documents.{written, read-list}
use Rattle.kube_final.proofs.Patching.{with, after, arrives, put-by}

-- ---- what is held

same-type : (t : ObjectType) → same_type t t ≡ true
same-type t =
    let group = (bytes_eq-Decides t.group t.group).1 refl in
    let version = (bytes_eq-Decides t.version t.version).1 refl in
    let kind = (bytes_eq-Decides t.kind t.kind).1 refl in
    let plural = (bytes_eq-Decides t.plural t.plural).1 refl in
    rw (group, version, kind, plural) refl

-- the object that the state of a server has
abbrev pub only : State DynamicObject → Option ObjectData
only [] = None
only (p ∷ ps) = Some (seen_object p.1)

held-under : (state : LifeState) (objects : State DynamicObject) → IsHeldAs objects state → option_map seen_object (object_at object_key objects) ≡ only objects
held-under state [] h = refl
held-under state (p ∷ []) h = rw h.0 refl
held-under state (p ∷ q ∷ ps) h = absurd h

pub held-only : (s : ServerState) (r : Reference) (state : LifeState) → Serves s r state → held s r ≡ only (objects_after meta_of s.changes)
held-only s r state h =
    let typed : same_type r.kind s.kind ≡ true = ap (same_type r.kind) h.kind ∙ same-type r.kind in
    ap (λ b. cond b (held_under s (reference_key r)) None) typed
    ∙ ap (held_under s) h.key ∙ held-under state (objects_after meta_of s.changes) h.holds

-- ---- one change more

state-more : (changes : List (Change DynamicObject)) (change : Change DynamicObject) → objects_after meta_of (changes ++ change ∷ []) ≡ changed meta_of (objects_after meta_of changes) change
state-more changes change = fold-append (changed meta_of) [] changes (change ∷ [])

-- an object of the key is changed, or goes
pub record IsOfKey (o : ObjectData) : Type 0 where
  pub name : o.metadata.name ≡ Some object_key.name
  pub namespace : o.metadata.namespace ≡ None

keyed : (x : DynamicObject) (o : ObjectData) → seen_object x ≡ o → IsOfKey o → key_of (meta_of x) ≡ object_key
keyed x o e k =
    let name : x.metadata.name ≡ Some object_key.name = ap (λ d. d.metadata.name) e ∙ k.name in
    let namespace : x.metadata.namespace ≡ None = ap (λ d. d.metadata.namespace) e ∙ k.namespace in
    λ i. record { namespace = namespace i; name = unwrap_or (name i) [] }

abbrev pub one : DynamicObject → State DynamicObject
one x = (object_key, x) ∷ []

modifies-one : (state : LifeState) (objects : State DynamicObject) (x : DynamicObject) (o : ObjectData) → seen_object x ≡ o → IsOfKey o → IsHeldAs objects state → state.gone ≡ false
    → changed meta_of objects (Modifies x) ≡ one x
modifies-one state [] x o e k h g = absurd (true≢false (sym h ∙ g))
modifies-one state (p ∷ []) x o e k h g =
    let later : with_object object_key x (p ∷ []) ≡ one x = rw h.0 refl in
    ap (λ key. with_object key x (p ∷ [])) (keyed x o e k) ∙ later
modifies-one state (p ∷ q ∷ ps) x o e k h g = absurd h

removes-one : (state : LifeState) (objects : State DynamicObject) (x : DynamicObject) (o : ObjectData) → seen_object x ≡ o → IsOfKey o → IsHeldAs objects state → state.gone ≡ false
    → changed meta_of objects (Removes x) ≡ []
removes-one state [] x o e k h g = absurd (true≢false (sym h ∙ g))
removes-one state (p ∷ []) x o e k h g =
    let later : without_object object_key (p ∷ []) ≡ [] = rw h.0 refl in
    ap (λ key. without_object key (p ∷ [])) (keyed x o e k) ∙ later
removes-one state (p ∷ q ∷ ps) x o e k h g = absurd h

-- a change that is seen as a modification of an object is one
modified-of : (made : Change DynamicObject) (o : ObjectData) → change_seen seen_object made ≡ Modifies o → (x : DynamicObject) × (made ≡ Modifies x) × (seen_object x ≡ o)
modified-of (Adds x) o e = absurd cc
modified-of (Modifies x) o e = (x, refl, ap object_of e)
modified-of (Removes x) o e = absurd cc

removed-of : (made : Change DynamicObject) (o : ObjectData) → change_seen seen_object made ≡ Removes o → (x : DynamicObject) × (made ≡ Removes x) × (seen_object x ≡ o)
removed-of (Adds x) o e = absurd cc
removed-of (Modifies x) o e = absurd cc
removed-of (Removes x) o e = (x, refl, ap object_of e)

-- the server of a state, after the object was changed
serves-modified : (old new : ServerState) (r : Reference) (state then : LifeState) (o : ObjectData) → Serves old r state → state.gone ≡ false → IsOfKey o → IsStep old new (Modifies o)
    → then.gone ≡ false → then.gone ≡ (then.deleting && is_empty then.finalizers) → IsSeenAs o then → Serves new r then
serves-modified old new r state then o h g k step gone formed seen =
    let m = modified-of step.made o step.seen in
    let objects : objects_after meta_of new.changes ≡ one m.0 =
    ap (λ s. objects_after meta_of s.changes) step.grown ∙ state-more old.changes step.made ∙ ap (changed meta_of (objects_after meta_of old.changes)) m.1
    ∙ modifies-one state (objects_after meta_of old.changes) m.0 o m.2 k h.holds g in
    record {
      kind = ap (λ s. s.kind) step.grown ∙ h.kind;
      key = h.key;
      formed = formed;
      holds = subst (λ os. IsHeldAs os then) (sym objects) (refl, gone, subst (λ d. IsSeenAs d then) (sym m.2) seen);
    }

serves-removed : (old new : ServerState) (r : Reference) (state then : LifeState) (o : ObjectData) → Serves old r state → state.gone ≡ false → IsOfKey o → IsStep old new (Removes o)
    → then.gone ≡ true → then.gone ≡ (then.deleting && is_empty then.finalizers) → Serves new r then
serves-removed old new r state then o h g k step gone formed =
    let m = removed-of step.made o step.seen in
    let objects : objects_after meta_of new.changes ≡ [] =
    ap (λ s. objects_after meta_of s.changes) step.grown ∙ state-more old.changes step.made ∙ ap (changed meta_of (objects_after meta_of old.changes)) m.1
    ∙ removes-one state (objects_after meta_of old.changes) m.0 o m.2 k h.holds g in
    record {
      kind = ap (λ s. s.kind) step.grown ∙ h.kind;
      key = h.key;
      formed = formed;
      holds = subst (λ os. IsHeldAs os then) (sym objects) gone;
    }

-- ---- patches

plain-key : (uid version : List ℕ) (content : Data) (deleted : Option (List ℕ)) (names : List (List ℕ)) → IsOfKey (plain_object uid version content deleted names)
plain-key uid version content deleted names = record { name = refl; namespace = refl }

gone-test : (uid version : List ℕ) (content : Data) (deleted : Option (List ℕ)) (names : List (List ℕ)) → is_gone (plain_object uid version content deleted names).metadata ≡ (is_some deleted && is_empty names)
gone-test uid version content deleted [] = refl
gone-test uid version content deleted (n ∷ ns) = refl

result-serves : (b : Bool) (old new : ServerState) (r : Reference) (state : LifeState) (uid version : List ℕ) (deleted : Option (List ℕ)) (names : List (List ℕ)) → Serves old r state → state.gone ≡ false
    → is_some deleted ≡ state.deleting → (is_some deleted && is_empty names) ≡ b
    → IsStep old new (cond b (removal (next_revision old) (plain_object uid version (object no_members) deleted names)) (Modifies (with_version (next_revision old) (plain_object uid version (object no_members) deleted names))))
    → Serves new r (state_of names state.deleting)
result-serves true old new r state uid version deleted names h g d e step =
    let gone : (state.deleting && is_empty names) ≡ true = ap (λ x. x && is_empty names) (sym d) ∙ e in
    serves-removed old new r state (state_of names state.deleting) (with_version (next_revision old) (plain_object uid version (object no_members) deleted names)) h g
    (plain-key uid (decimal (next_revision old)) (object no_members) deleted names) step gone refl
result-serves false old new r state uid version deleted names h g d e step =
    let gone : (state.deleting && is_empty names) ≡ false = ap (λ x. x && is_empty names) (sym d) ∙ e in
    serves-modified old new r state (state_of names state.deleting) (with_version (next_revision old) (plain_object uid version (object no_members) deleted names)) h g
    (plain-key uid (decimal (next_revision old)) (object no_members) deleted names) step gone refl
    (record { uid = uid; version = decimal (next_revision old); content = object no_members; deleted = deleted; empty = refl; deleting = d; is = refl })

patched-serves : (old new : ServerState) (r : Reference) (state : LifeState) (uid version : List ℕ) (deleted : Option (List ℕ)) (names : List (List ℕ)) → Serves old r state → state.gone ≡ false
    → is_some deleted ≡ state.deleting → IsStep old new (patch_result (next_revision old) (plain_object uid version (object no_members) deleted names)) → Serves new r (state_of names state.deleting)
patched-serves old new r state uid version deleted names h g d step =
    let p = plain_object uid version (object no_members) deleted names in
    result-serves (is_some deleted && is_empty names) old new r state uid version deleted names h g d refl
    (subst (λ b. IsStep old new (cond b (removal (next_revision old) p) (Modifies (with_version (next_revision old) p)))) (gone-test uid version (object no_members) deleted names) step)

-- a patch makes these finalizers of those, or is refused where they are those
pub record Gives (uid version : List ℕ) (deleted : Option (List ℕ)) (ops : List Operation) (names new : List (List ℕ)) : Type 0 where
  pub passes : Bool
  pub comes : patched ops (with uid version deleted names) ≡ cond passes (Ok (after uid version deleted new)) (Err (TestFailed 0))
  pub refused : passes ≡ false → new ≡ names

abbrev fits : ℕ → ObjectData → Result (Change ObjectData) PatchRefusal
fits rev p = Ok (patch_result rev p)

abbrev document_of : Data → Result Data PatchRefusal
document_of d = Ok d

change-when : (b : Bool) (rev : ℕ) (uid version : List ℕ) (deleted : Option (List ℕ)) (new : List (List ℕ))
    → patch_document rev (cond b (document_of (after uid version deleted new)) (Err (TestFailed 0))) ≡ cond b (fits rev (plain_object uid version (object no_members) deleted new)) (Err (TestFailed 0))
change-when true rev uid version deleted new = ap (read_patched rev) (read-list uid version deleted new)
change-when false rev uid version deleted new = refl

change-given : (rev : ℕ) (uid version : List ℕ) (content : Data) (deleted : Option (List ℕ)) (ops : List Operation) (names new : List (List ℕ)) → content_members content ≡ no_members
    → (gives : Gives uid version deleted ops names new)
    → patch_change rev ops (plain_object uid version content deleted names) ≡ cond gives.passes (fits rev (plain_object uid version (object no_members) deleted new)) (Err (TestFailed 0))
change-given rev uid version content deleted ops names new empty gives =
    ap (λ d. patch_document rev (patched ops d)) (written uid version content deleted names empty) ∙ ap (patch_document rev) gives.comes ∙ change-when gives.passes rev uid version deleted new

done-when : (b : Bool) (old new : ServerState) (r : Reference) (state : LifeState) (uid version : List ℕ) (deleted : Option (List ℕ)) (names : List (List ℕ)) → Serves old r state → state.gone ≡ false
    → is_some deleted ≡ state.deleting → IsPatched old new (cond b (fits (next_revision old) (plain_object uid version (object no_members) deleted names)) (Err (TestFailed 0))) → Serves new r (state_of names state.deleting)
done-when true old new r state uid version deleted names h g d step = patched-serves old new r state uid version deleted names h g d step
done-when false old new r state uid version deleted names h g d step = absurd step

abbrev pub AllGive : List Operation → List (List ℕ) → List (List ℕ) → Type 0
AllGive ops names new = (uid version : List ℕ) (deleted : Option (List ℕ)) → Gives uid version deleted ops names new

done-of : (objects : State DynamicObject) (old new : ServerState) (r : Reference) (state : LifeState) (ops : List Operation) (names : List (List ℕ)) → Serves old r state → state.gone ≡ false
    → AllGive ops state.finalizers names → IsHeldAs objects state → IsHeldAnd (only objects) (λ o. IsPatched old new (patch_change (next_revision old) ops o)) → Serves new r (state_of names state.deleting)
done-of [] old new r state ops names h g gives held step = absurd step
done-of (p ∷ []) old new r state ops names h g gives held step =
    let s = held.2 in
    let given = gives s.uid s.version s.deleted in
    done-when given.passes old new r state s.uid s.version s.deleted names h g s.deleting
    (subst (λ x. IsPatched old new x) (ap (patch_change (next_revision old) ops) s.is ∙ change-given (next_revision old) s.uid s.version s.content s.deleted ops state.finalizers names s.empty given) step)
done-of (p ∷ q ∷ ps) old new r state ops names h g gives held step = absurd held

-- a patch was done
pub patch-done : (old new : ServerState) (r : Reference) (state : LifeState) (ops : List Operation) (names : List (List ℕ)) → Serves old r state → state.gone ≡ false → AllGive ops state.finalizers names
    → IsHeldAnd (held old r) (λ o. IsPatched old new (patch_change (next_revision old) ops o)) → Serves new r (state_of names state.deleting)
patch-done old new r state ops names h g gives step =
    done-of (objects_after meta_of old.changes) old new r state ops names h g gives h.holds
    (subst (λ f. IsHeldAnd f (λ o. IsPatched old new (patch_change (next_revision old) ops o))) (held-only old r state h) step)

-- no patch is done where the object has gone
gone-of : (objects : State DynamicObject) (state : LifeState) (P : ObjectData → Type 0) → IsHeldAs objects state → state.gone ≡ true → IsHeldAnd (only objects) P → ⊥
gone-of [] state P held g step = step
gone-of (p ∷ []) state P held g step = true≢false (sym g ∙ held.1)
gone-of (p ∷ q ∷ ps) state P held g step = held

pub none-gone : (s : ServerState) (r : Reference) (state : LifeState) (P : ObjectData → Type 0) → Serves s r state → state.gone ≡ true → IsHeldAnd (held s r) P → ⊥
none-gone s r state P h g step = gone-of (objects_after meta_of s.changes) state P h.holds g (subst (λ f. IsHeldAnd f P) (held-only s r state h) step)

-- ---- refusals

pub as-formed : (state : LifeState) → state.gone ≡ (state.deleting && is_empty state.finalizers) → state ≡ state_of state.finalizers state.deleting
as-formed state formed = λ i. record { finalizers = state.finalizers; deleting = state.deleting; gone = formed i }

refused-when : (b : Bool) (state : LifeState) (rev : ℕ) (p : ObjectData) (names : List (List ℕ)) (e : PatchRefusal) → RefusesAs (cond b (fits rev p) (Err (TestFailed 0))) e
    → (b ≡ false → names ≡ state.finalizers) → names ≡ state.finalizers
refused-when true state rev p names e h k = absurd h
refused-when false state rev p names e h k = k refl

refused-of : (objects : State DynamicObject) (old : ServerState) (state : LifeState) (ops : List Operation) (names : List (List ℕ)) (e : PatchRefusal) → state.gone ≡ false
    → AllGive ops state.finalizers names → IsHeldAs objects state → IsOfHeld (only objects) (patch_change (next_revision old) ops) e → names ≡ state.finalizers
refused-of [] old state ops names e g gives held k = absurd (true≢false (sym held ∙ g))
refused-of (p ∷ []) old state ops names e g gives held k =
    let s = held.2 in
    let given = gives s.uid s.version s.deleted in
    refused-when given.passes state (next_revision old) (plain_object s.uid s.version (object no_members) s.deleted names) names e
    (subst (λ x. RefusesAs x e) (ap (patch_change (next_revision old) ops) s.is ∙ change-given (next_revision old) s.uid s.version s.content s.deleted ops state.finalizers names s.empty given) k)
    given.refused
refused-of (p ∷ q ∷ ps) old state ops names e g gives held k = absurd held

-- a patch was refused
pub patch-refused : (old new : ServerState) (r : Reference) (state : LifeState) (ops : List Operation) (names : List (List ℕ)) (e : PatchRefusal) → Serves old r state → state.gone ≡ false → AllGive ops state.finalizers names
    → IsPatchRefusal (held old r) (patch_change (next_revision old) ops) e → (e ≡ NoMemory → ⊥) → new ≡ old → Serves new r (state_of names state.deleting)
patch-refused old new r state ops names e h g gives refusal other same =
    let names-same : names ≡ state.finalizers = refused-of (objects_after meta_of old.changes) old state ops names e g gives h.holds
    (subst (λ f. IsOfHeld f (patch_change (next_revision old) ops) e) (held-only old r state h) (refusal other)) in
    let state-same : state ≡ state_of names state.deleting = as-formed state h.formed ∙ ap (λ ns. state_of ns state.deleting) (sym names-same) in
    subst (λ t. Serves new r t) state-same (subst (λ s. Serves s r state) (sym same) h)

-- ---- the patches of a life

pub arrival-gives : (name : List ℕ) (d : Decided) (names : List (List ℕ)) (ops : List Operation) → IsPatchOf name ops (Some d) → AllGive ops names (patched_by name d.decision d.seen names)
arrival-gives name d names ops h uid version deleted =
    let a = arrives uid version deleted name d.decision d.seen names h.1 in
    record { passes = a.passes; comes = ap (λ os. patched os (with uid version deleted names)) h.0 ∙ a.comes; refused = a.refused }

pub change-gives : (names new : List (List ℕ)) (ops : List Operation) → ops ≡ Changes list_path (Puts (names_data new)) ∷ [] → AllGive ops names new
change-gives names new ops e uid version deleted =
    record { passes = true; comes = ap (λ os. patched os (with uid version deleted names)) e ∙ put-by uid version deleted names new; refused = λ h. absurd (true≢false h) }

arrived-when : (b : Bool) (old new : ServerState) (r : Reference) (name : List ℕ) (state : LifeState) (d : Decided) → state.gone ≡ b → (b ≡ true → Serves new r state)
    → (b ≡ false → Serves new r (state_of (patched_by name d.decision d.seen state.finalizers) state.deleting)) → Serves new r (cond b state (state_of (patched_by name d.decision d.seen state.finalizers) state.deleting))
arrived-when true old new r name state d e h k = h refl
arrived-when false old new r name state d e h k = k refl

pub arrived-done : (old new : ServerState) (r : Reference) (name : List ℕ) (state : LifeState) (d : Decided) (ops : List Operation) → Serves old r state → IsPatchOf name ops (Some d)
    → IsHeldAnd (held old r) (λ o. IsPatched old new (patch_change (next_revision old) ops o)) → Serves new r (arrived name state (Some d))
arrived-done old new r name state d ops h p step =
    arrived-when state.gone old new r name state d refl
    (λ g. absurd (none-gone old r state (λ o. IsPatched old new (patch_change (next_revision old) ops o)) h g step))
    (λ g. patch-done old new r state ops (patched_by name d.decision d.seen state.finalizers) h g (arrival-gives name d state.finalizers ops p) step)

pub arrived-refused : (old new : ServerState) (r : Reference) (name : List ℕ) (state : LifeState) (d : Decided) (ops : List Operation) (e : PatchRefusal) → Serves old r state → IsPatchOf name ops (Some d)
    → IsPatchRefusal (held old r) (patch_change (next_revision old) ops) e → (e ≡ NoMemory → ⊥) → new ≡ old → Serves new r (arrived name state (Some d))
arrived-refused old new r name state d ops e h p refusal other same =
    arrived-when state.gone old new r name state d refl
    (λ g. subst (λ s. Serves s r state) (sym same) h)
    (λ g. patch-refused old new r state ops (patched_by name d.decision d.seen state.finalizers) e h g (arrival-gives name d state.finalizers ops p) refusal other same)

-- ---- a request to delete

asked-seen : (old new : ServerState) (r : Reference) (state : LifeState) (now : ℕ) (uid version : List ℕ) (content : Data) (deleted : Option (List ℕ)) (names : List (List ℕ)) → Serves old r state → state.gone ≡ false
    → content_members content ≡ no_members → is_some deleted ≡ state.deleting → names ≡ state.finalizers
    → IsAtMostStep old new (deletion (next_revision old) now (plain_object uid version content deleted names)) → Serves new r (state_of state.finalizers true)
asked-seen old new r state now uid version content deleted [] h g empty d same step =
    subst (λ ns. Serves new r (state_of ns true)) same
    (serves-removed old new r state (state_of [] true) (with_version (next_revision old) (plain_object uid version content deleted [])) h g
    (plain-key uid (decimal (next_revision old)) content deleted []) step refl refl)
asked-seen old new r state now uid version content None (n ∷ ns) h g empty d same step =
    subst (λ ms. Serves new r (state_of ms true)) same
    (serves-modified old new r state (state_of (n ∷ ns) true) (deleting (next_revision old) now (plain_object uid version content None (n ∷ ns))) h g
    (plain-key uid (decimal (next_revision old)) content (Some (decimal now)) (n ∷ ns)) step refl refl
    (record { uid = uid; version = decimal (next_revision old); content = content; deleted = Some (decimal now); empty = empty; deleting = refl; is = refl }))
asked-seen old new r state now uid version content (Some t) (n ∷ ns) h g empty d same step =
    let state-same : state ≡ state_of state.finalizers true = as-formed state h.formed ∙ ap (state_of state.finalizers) (sym d) in
    subst (λ s. Serves new r s) state-same (subst (λ s. Serves s r state) (sym step) h)

asked-of : (objects : State DynamicObject) (old new : ServerState) (r : Reference) (state : LifeState) (now : ℕ) → Serves old r state → state.gone ≡ false → IsHeldAs objects state
    → IsHeldAnd (only objects) (λ o. IsAtMostStep old new (deletion (next_revision old) now o)) → Serves new r (state_of state.finalizers true)
asked-of [] old new r state now h g held step = absurd step
asked-of (p ∷ []) old new r state now h g held step =
    let s = held.2 in
    asked-seen old new r state now s.uid s.version s.content s.deleted state.finalizers h g s.empty s.deleting refl
    (subst (λ o. IsAtMostStep old new (deletion (next_revision old) now o)) s.is step)
asked-of (p ∷ q ∷ ps) old new r state now h g held step = absurd held

pub delete-asked : (old new : ServerState) (r : Reference) (state : LifeState) (now : ℕ) → Serves old r state → state.gone ≡ false
    → IsHeldAnd (held old r) (λ o. IsAtMostStep old new (deletion (next_revision old) now o)) → Serves new r (state_of state.finalizers true)
delete-asked old new r state now h g step =
    asked-of (objects_after meta_of old.changes) old new r state now h g h.holds
    (subst (λ f. IsHeldAnd f (λ o. IsAtMostStep old new (deletion (next_revision old) now o))) (held-only old r state h) step)
