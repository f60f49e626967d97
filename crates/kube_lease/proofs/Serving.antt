-- What the calls of a server make of the object of a lease.
use Rattle.std.proofs.Common.{◌≡◌, ℕ, List, [], ◌∷◌, ◌++◌, Option, Some, None, Result, Bool, true, false, cond, is_some, option_map, decimal, refl, sym, ap, ◌∙◌, subst, true≢false}
use Rattle.std.specs.Prelude.{unwrap_or}
use Rattle.std.specs.Arc.{arc_value}
use Rattle.std.specs.declared.alloc.Global.{Global}
use Rattle.std.specs.declared.sync.Arc.{Arc}
use Rattle.std.proofs.lemmas.List.Sums.{fold-append}
use Rattle.std.proofs.lemmas.Slice.Eq.{bytes_eq-Decides}
use Rattle.kube_meta.specs.declared.dynamic.DynamicObject.{DynamicObject}
use Rattle.kube_meta.specs.Reading.{ObjectData, seen_object}
use Rattle.kube_meta.specs.Reference.{Reference, ObjectType, same_type}
use Rattle.kube_api.specs.declared.patch.PatchRefusal.{PatchRefusal}
use Rattle.kube_api.specs.declared.patch.PatchRefusal.TheVariants.{TestFailed}
use Rattle.kube_api.specs.ObjectTalk.{ObjectAnswer, AnswersLater, AnswersFault, AnswersObject, AnswersGone, AnswersNone, AnswersRefusal}
use Rattle.kube_server.specs.History.{Key, Change, Adds, Modifies, Removes, State, key_of, object_at, object_of, with_object, changed, change_seen, state_of as objects_after}
use Rattle.kube_server.specs.ObjectCalls.{IsLeftByPatch, IsPatchedOrKept, answer_of_patch, answer_seen, patched_answer, reference_in}
use Rattle.kube_server.specs.Servers.{ServerState, meta_of, next_revision, reference_key, held_under, held, IsStep, patch_change, put_change}
use Rattle.kube_final.specs.Played.{no_objects}
use Rattle.kube_lease.specs.Elections.{Sent, passes}
use Rattle.kube_lease.specs.Leases.{Lease}
use Rattle.kube_lease.specs.Played.{IsHeldAs, IsOpened, IsSeenAs, lease_key, lease_name, operations_of, plain_lease}
use Rattle.kube_lease.specs.Reading.{new_lease}
use Rattle.kube_lease.specs.Staging.{IsAnswered, IsArrived, IsRegularSent, IsSmall, Serves, object_in}
use Rattle.kube_lease.proofs.LeaseDocuments.{change_done, change_refused}

-- ---- what is held

same-type : (t : ObjectType) → same_type t t ≡ true
same-type t =
    let group = (bytes_eq-Decides t.group t.group).1 refl in
    let version = (bytes_eq-Decides t.version t.version).1 refl in
    let kind = (bytes_eq-Decides t.kind t.kind).1 refl in
    let plural = (bytes_eq-Decides t.plural t.plural).1 refl in
    rw (group, version, kind, plural) refl

-- the object that a state has, if it has one
abbrev only : State DynamicObject → Option ObjectData
only [] = None
only (p ∷ ps) = Some (seen_object p.1)

held-under : (l : Lease) (objects : State DynamicObject) → IsHeldAs objects l → option_map seen_object (object_at lease_key objects) ≡ only objects
held-under l [] h = absurd h
held-under l (p ∷ []) h = rw h.0 refl
held-under l (p ∷ q ∷ ps) h = absurd h

held-only : (s : ServerState) (r : Reference) (l : Lease) → Serves s r l → held s r ≡ only (objects_after meta_of s.changes)
held-only s r l h =
    let typed : same_type r.kind s.kind ≡ true = ap (same_type r.kind) h.kind ∙ same-type r.kind in
    ap (λ b. cond b (held_under s (reference_key r)) None) typed
    ∙ ap (held_under s) h.key ∙ held-under l (objects_after meta_of s.changes) h.holds

some-no : {A : Type 0} (a : A) → Some a ≡ None → ⊥
some-no a e = true≢false (ap is_some e)

some-same : {A : Type 0} (a b : A) → Some a ≡ Some b → a ≡ b
some-same a b e = ap (λ o. unwrap_or o a) e

sight-at : (objects : State DynamicObject) (l : Lease) (o : ObjectData) → IsHeldAs objects l → Some o ≡ only objects → IsSeenAs o l
sight-at [] l o h e = absurd h
sight-at (p ∷ []) l o h e = subst (λ x. IsSeenAs x l) (sym (some-same o (seen_object p.1) e)) h.1
sight-at (p ∷ q ∷ ps) l o h e = absurd h

-- the object that the server has is that lease
pub sight-of : (s : ServerState) (r : Reference) (l : Lease) (o : ObjectData) → Serves s r l → Some o ≡ held s r → IsSeenAs o l
sight-of s r l o h e = sight-at (objects_after meta_of s.changes) l o h.holds (e ∙ held-only s r l h)

-- the object of a reference is there
held-at : (objects : State DynamicObject) (l : Lease) → IsHeldAs objects l → (uid : List ℕ) × (version : List ℕ) × (only objects ≡ Some (plain_lease uid version l))
held-at [] l h = absurd h
held-at (p ∷ []) l h = (h.1.uid, h.1.version, ap (λ (o : ObjectData). Some o) h.1.is)
held-at (p ∷ q ∷ ps) l h = absurd h

-- the reference of its name in the server
own-reference : (s : ServerState) (r : Reference) → s.kind ≡ r.kind → reference_key r ≡ lease_key → reference_in s None lease_name ≡ r
own-reference s r kind key =
    λ i. record { kind = kind i; name = (sym (ap (λ (k : Key). k.name) key)) i; namespace = (sym (ap (λ (k : Key). k.namespace) key)) i }

-- ---- one change more

state-more : (changes : List (Change DynamicObject)) (change : Change DynamicObject) → objects_after meta_of (changes ++ change ∷ []) ≡ changed meta_of (objects_after meta_of changes) change
state-more changes change = fold-append (changed meta_of) [] changes (change ∷ [])

keyed : (x : DynamicObject) (uid version : List ℕ) (l : Lease) → seen_object x ≡ plain_lease uid version l → key_of (meta_of x) ≡ lease_key
keyed x uid version l e =
    let name : x.metadata.name ≡ Some lease_name = ap (λ (d : ObjectData). d.metadata.name) e in
    let namespace : x.metadata.namespace ≡ None = ap (λ (d : ObjectData). d.metadata.namespace) e in
    λ i. record { namespace = namespace i; name = unwrap_or (name i) [] }

abbrev one : DynamicObject → State DynamicObject
one x = (lease_key, x) ∷ []

modifies-one : (l : Lease) (objects : State DynamicObject) (x : DynamicObject) → key_of (meta_of x) ≡ lease_key → IsHeldAs objects l → changed meta_of objects (Modifies x) ≡ one x
modifies-one l [] x k h = absurd h
modifies-one l (p ∷ []) x k h =
    let later : with_object lease_key x (p ∷ []) ≡ one x = rw h.0 refl in
    ap (λ key. with_object key x (p ∷ [])) k ∙ later
modifies-one l (p ∷ q ∷ ps) x k h = absurd h

modified-of : (made : Change DynamicObject) (o : ObjectData) → change_seen seen_object made ≡ Modifies o → (x : DynamicObject) × (made ≡ Modifies x) × (seen_object x ≡ o)
modified-of (Adds x) o e = absurd cc
modified-of (Modifies x) o e = (x, refl, ap object_of e)
modified-of (Removes x) o e = absurd cc

serves-modified : (old new : ServerState) (r : Reference) (l m : Lease) (uid version : List ℕ) → Serves old r l → IsStep old new (Modifies (plain_lease uid version m)) → Serves new r m
serves-modified old new r l m uid version h step =
    let w = modified-of step.made (plain_lease uid version m) step.seen in
    let objects : objects_after meta_of new.changes ≡ one w.0 =
    ap (λ (s : ServerState). objects_after meta_of s.changes) step.grown ∙ state-more old.changes step.made ∙ ap (changed meta_of (objects_after meta_of old.changes)) w.1
    ∙ modifies-one l (objects_after meta_of old.changes) w.0 (keyed w.0 uid version m w.2) h.holds in
    let seen : IsSeenAs (seen_object w.0) m = record { uid = uid; version = version; is = w.2 } in
    record {
      kind = ap (λ (s : ServerState). s.kind) step.grown ∙ h.kind;
      key = h.key;
      holds = subst (λ os. IsHeldAs os m) (sym objects) (refl, seen);
    }

-- the lease is put
pub put_opened : (kind : ObjectType) (old new : ServerState) (x : DynamicObject) → old ≡ no_objects kind → seen_object x ≡ new_lease lease_name
    → IsStep old new (put_change old (key_of x.metadata) (seen_object x)) → IsOpened kind new
put_opened kind old new x e seen step =
    let key : key_of x.metadata ≡ lease_key = ap (λ (o : ObjectData). key_of o.metadata) seen in
    subst (λ s. IsStep s new (put_change s lease_key (new_lease lease_name))) e
    (subst (λ k. IsStep old new (put_change old k (new_lease lease_name))) key
    (subst (λ o. IsStep old new (put_change old (key_of x.metadata) o)) seen step))

-- ---- a patch that arrives

-- an answer whose object is seen so
seen-answer : (a : ObjectAnswer DynamicObject) (o : ObjectData) → answer_seen seen_object a ≡ AnswersObject o → (x : DynamicObject) × (object_in a ≡ Some x) × (seen_object x ≡ o)
seen-answer AnswersLater o e = absurd cc
seen-answer (AnswersFault error) o e = absurd cc
seen-answer (AnswersObject x) o e = (x, refl, some-same (seen_object x) o (ap object_in e))
seen-answer (AnswersGone status) o e = absurd cc
seen-answer AnswersNone o e = absurd cc
seen-answer (AnswersRefusal refusal) o e = absurd cc

refused-answer : (a : ObjectAnswer DynamicObject) (e : PatchRefusal) → answer_seen seen_object a ≡ AnswersRefusal e → object_in a ≡ None
refused-answer AnswersLater e h = refl
refused-answer (AnswersFault error) e h = refl
refused-answer (AnswersObject x) e h = absurd cc
refused-answer (AnswersGone status) e h = refl
refused-answer AnswersNone e h = refl
refused-answer (AnswersRefusal refusal) e h = refl

given : (new : ServerState) (r : Reference) (l : Lease) (s : Sent) (made : Option (Arc DynamicObject Global)) (x : DynamicObject) → passes s l ≡ true → Serves new r s.makes
    → IsSeenAs (seen_object x) s.makes → option_map arc_value made ≡ Some x → IsArrived new r l s made
given new r l s None x p h seen e = absurd (some-no x (sym e))
given new r l s (Some a) x p h seen e = (p, h, subst (λ (y : DynamicObject). IsSeenAs (seen_object y) s.makes) (sym (some-same (arc_value a) x e)) seen)

none-given : (new : ServerState) (r : Reference) (l : Lease) (s : Sent) (made : Option (Arc DynamicObject Global)) → passes s l ≡ false → Serves new r l → option_map arc_value made ≡ None → IsArrived new r l s made
none-given new r l s None p h e = (p, h)
none-given new r l s (Some a) p h e = absurd (some-no (arc_value a) e)

-- what is held, and what came of the patch of it
arrived-by : (b : Bool) (old new : ServerState) (r : Reference) (l : Lease) (s : Sent) (made : Option (Arc DynamicObject Global)) (answer : ObjectAnswer DynamicObject) (uid version : List ℕ)
    → passes s l ≡ b → Serves old r l → IsSmall l → IsRegularSent s
    → answer_seen seen_object answer ≡ patched_answer (patch_change (next_revision old) (operations_of s) (plain_lease uid version l))
    → IsPatchedOrKept old new (patch_change (next_revision old) (operations_of s) (plain_lease uid version l)) → option_map arc_value made ≡ object_in answer → IsArrived new r l s made
arrived-by true old new r l s made answer uid version p h small k answered left gives =
    let revision = next_revision old in
    let done = change_done uid version l small revision s k p in
    let w = seen-answer answer (plain_lease uid (decimal revision) s.makes) (answered ∙ ap patched_answer done) in
    let step : IsStep old new (Modifies (plain_lease uid (decimal revision) s.makes)) = subst (λ (x : Result (Change ObjectData) PatchRefusal). IsPatchedOrKept old new x) done left in
    given new r l s made w.0 p (serves-modified old new r l s.makes uid (decimal revision) h step) (record { uid = uid; version = decimal revision; is = w.2 }) (gives ∙ w.1)
arrived-by false old new r l s made answer uid version p h small k answered left gives =
    let refused = change_refused uid version l small (next_revision old) s k p in
    let same : new ≡ old = subst (λ (x : Result (Change ObjectData) PatchRefusal). IsPatchedOrKept old new x) refused.1 left in
    none-given new r l s made p (subst (λ (t : ServerState). Serves t r l) (sym same) h) (gives ∙ refused-answer answer (TestFailed refused.0) (answered ∙ ap patched_answer refused.1))

-- a patch that was sent arrives at the server of a lease
pub arrived-so : (old new : ServerState) (r : Reference) (now : ℕ) (l : Lease) (s : Sent) (made : Option (Arc DynamicObject Global)) → Serves old r l → IsSmall l → IsRegularSent s
    → IsAnswered old new now (operations_of s) made → IsArrived new r l s made
arrived-so old new r now l s made h small k a =
    let w = held-at (objects_after meta_of old.changes) l h.holds in
    let found : held old (reference_in old None lease_name) ≡ Some (plain_lease w.0 w.1 l) = ap (held old) (own-reference old r h.kind h.key) ∙ held-only old r l h ∙ w.2 in
    arrived-by (passes s l) old new r l s made a.answer w.0 w.1 refl h small k
    (a.move.answer ∙ ap (answer_of_patch (next_revision old) (operations_of s)) found)
    (subst (λ (o : Option ObjectData). IsLeftByPatch old new (operations_of s) o) found a.move.left)
    a.gives
