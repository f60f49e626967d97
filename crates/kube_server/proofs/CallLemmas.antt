-- Calls to the objects of a server.
use Rattle.std.proofs.Common.{◌≡◌, ℕ, Bool, true, false, ◌&&◌, List, [], ◌∷◌, ◌++◌, Option, Some, None, Result, Ok, Err, option_map, map, refl, sym, ap, ◌∙◌, subst, true≢false}
use Rattle.std.proofs.lemmas.List.{map-append}
use Rattle.serde_json.specs.Data.{Data}
use Rattle.kube_meta.specs.declared.dynamic.DynamicObject.{DynamicObject}
use Rattle.kube_meta.specs.declared.object_fault.ObjectFault.{ObjectFault}
use Rattle.kube_meta.specs.Reading.{ObjectData, seen_object, object_data_at}
use Rattle.kube_meta.specs.Writing.{object_data}
use Rattle.kube_model.specs.Raw.{grown, FaultRose}
use Rattle.kube_api.specs.declared.patch.PatchRefusal.{PatchRefusal}
use Rattle.kube_api.specs.declared.patch.PatchRefusal.TheVariants.{NoMemory as memory}
use Rattle.kube_api.specs.Patches.{Operation, performed_from, then_by, unless_changed, stays, is_object, is_read, is_same_object, patched}
use Rattle.kube_api.specs.ObjectTalk.{ObjectAnswer, AnswersLater, AnswersFault, AnswersObject, AnswersGone, AnswersNone, AnswersRefusal, ObjectRaw, refusal_in, refusal_of, AnswersPatch, AnswersDelete, IsKept, is_object_fault}
use Rattle.kube_server.specs.History.{Change, Adds, Modifies, Removes, object_of, change_seen}
use Rattle.kube_server.specs.Servers.{ServerState, meta_of, next_revision, IsHeldAnd, IsStep, patch_change, patch_document, read_patched, deletion, RefusesAs, IsOfHeld, IsPatchRefusal}
use Rattle.kube_server.specs.ObjectCalls.{answer_seen, patched_answer, answer_of_patch, IsPatchedOrKept, IsLeftByPatch, IsKeptServer, gone_status, change_answer, deleted_answer, answer_of_delete, IsLeftByDelete, object_raw}
use Rattle.kube_server.specs.declared.object_told.ObjectTold.{ObjectTold}
use Rattle.kube_server.proofs.PatchLemmas.{then-ok, unless-ok, and-first}
use Rattle.kube_server.proofs.ServerLemmas.{step-of}

-- ---- what was told

pub told-more : (told new : List ObjectTold) (t : ObjectTold) (raw : ObjectRaw DynamicObject)
    → new ≡ told ++ t ∷ [] → object_raw t ≡ raw → Some (map object_raw new) ≡ grown (Some (map object_raw told)) raw
told-more told new t raw n e =
    ap (λ ts. Some (map object_raw ts)) n ∙ ap Some (map-append object_raw told (t ∷ []) ∙ ap (λ r. map object_raw told ++ r ∷ []) e)

-- ---- patches

object-seen : (c : Change DynamicObject) → object_of (change_seen seen_object c) ≡ seen_object (object_of c)
object-seen (Adds o) = refl
object-seen (Modifies o) = refl
object-seen (Removes o) = refl

pub done-answer : (found : Option ObjectData) (r : ℕ) (os : List Operation) (c : Change DynamicObject) (x : DynamicObject)
    → IsHeldAnd found (λ o. patch_change r os o ≡ Ok (change_seen seen_object c)) → x ≡ object_of c
    → AnswersObject (seen_object x) ≡ answer_of_patch r os found
done-answer None r os c x h e = absurd h
done-answer (Some o) r os c x h e = ap (λ y. AnswersObject (seen_object y)) e ∙ (ap AnswersObject (sym (object-seen c)) ∙ ap patched_answer (sym h))

pub done-left : (old new : ServerState) (found : Option ObjectData) (os : List Operation) (c : Change DynamicObject)
    → IsHeldAnd found (λ o. patch_change (next_revision old) os o ≡ Ok (change_seen seen_object c)) → new ≡ record old { changes = old.changes ++ c ∷ [] }
    → IsLeftByPatch old new os found
done-left old new None os c h g = absurd h
done-left old new (Some o) os c h g = subst (λ x. IsPatchedOrKept old new x) (sym h) (step-of old new c (change_seen seen_object c) refl g)

refused-as : (x : Result (Change ObjectData) PatchRefusal) (e : PatchRefusal) → RefusesAs x e → AnswersRefusal e ≡ patched_answer x
refused-as (Ok c) e h = absurd h
refused-as (Err f) e h = ap AnswersRefusal (sym h)

kept-as : (s : ServerState) (x : Result (Change ObjectData) PatchRefusal) (e : PatchRefusal) → RefusesAs x e → IsPatchedOrKept s s x
kept-as s (Ok c) e h = absurd h
kept-as s (Err f) e h = refl

refused-answer-of : (found : Option ObjectData) (r : ℕ) (os : List Operation) (e : PatchRefusal)
    → IsOfHeld found (patch_change r os) e → AnswersRefusal e ≡ answer_of_patch r os found
refused-answer-of None r os e h = ap AnswersRefusal h
refused-answer-of (Some o) r os e h = refused-as (patch_change r os o) e h

refused-left-of : (s : ServerState) (found : Option ObjectData) (os : List Operation) (e : PatchRefusal)
    → IsOfHeld found (patch_change (next_revision s) os) e → IsLeftByPatch s s os found
refused-left-of s None os e h = refl
refused-left-of s (Some o) os e h = kept-as s (patch_change (next_revision s) os o) e h

pub refused-answer : (found : Option ObjectData) (r : ℕ) (os : List Operation) (e f : PatchRefusal)
    → IsPatchRefusal found (patch_change r os) f → e ≡ f → ¬ (e ≡ memory) → AnswersRefusal e ≡ answer_of_patch r os found
refused-answer found r os e f h same other = ap AnswersRefusal same ∙ refused-answer-of found r os f (h (λ m. other (same ∙ m)))

pub refused-left : (s : ServerState) (found : Option ObjectData) (os : List Operation) (e f : PatchRefusal)
    → IsPatchRefusal found (patch_change (next_revision s) os) f → e ≡ f → ¬ (e ≡ memory) → IsLeftByPatch s s os found
refused-left s found os e f h same other = refused-left-of s found os f (h (λ m. other (same ∙ m)))

-- ---- a patch is refused as the document's patch is

abbrev Agrees : Result (Change ObjectData) PatchRefusal → Result Data PatchRefusal → Type 0
Agrees (Ok c) (Ok d) = Unit {0}
Agrees (Err e) (Err f) = e ≡ f
Agrees _ _ = ⊥

read-agrees : (r : ℕ) (d : Data) (x : Result ObjectData ObjectFault) → object_data_at d ≡ x → is_read x ≡ true → Agrees (read_patched r x) (Ok d)
read-agrees r d (Ok p) e h = tt
read-agrees r d (Err f) e h = absurd (true≢false (sym h))

document-agrees : (r : ℕ) (os : List Operation) (o : ObjectData) (x : Result Data PatchRefusal)
    → patched os (object_data o) ≡ x → Agrees (patch_document r x) x
document-agrees r os o (Err e) h = refl
document-agrees r os o (Ok d) h =
    let t = then-ok (performed_from 0 os (object_data o)) (λ x. unless_changed (stays (object_data o) x) x) d h in
    let u = unless-ok (stays (object_data o) t.0) t.0 d t.1 in
    let s : stays (object_data o) d ≡ true = subst (λ x. stays (object_data o) x ≡ true) u.1 u.0 in
    read-agrees r d (object_data_at d) refl (and-first (is_object d) (is_same_object (object_data o) d) s)

as-agreed : (c : Result (Change ObjectData) PatchRefusal) (x : Result Data PatchRefusal) → Agrees c x → AnswersPatch (patched_answer c) (refusal_in x)
as-agreed (Ok c) (Ok d) h = refl
as-agreed (Ok c) (Err f) h = absurd h
as-agreed (Err e) (Ok d) h = absurd h
as-agreed (Err e) (Err f) h = ap Some (sym h)

answer-refuses : (found : Option ObjectData) (r : ℕ) (os : List Operation) → AnswersPatch (answer_of_patch r os found) (refusal_of (option_map object_data found) os)
answer-refuses None r os = refl
answer-refuses (Some o) r os = as-agreed (patch_change r os o) (patched os (object_data o)) (document-agrees r os o (patched os (object_data o)) refl)

patch-unseen : (x : ObjectAnswer DynamicObject) (w : Option PatchRefusal) → AnswersPatch (answer_seen seen_object x) w → AnswersPatch x w
patch-unseen AnswersLater w h = h
patch-unseen (AnswersFault e) w h = h
patch-unseen (AnswersObject o) w h = h
patch-unseen (AnswersGone s) w h = h
patch-unseen AnswersNone w h = h
patch-unseen (AnswersRefusal e) w h = h

pub refuses-as : (x : ObjectAnswer DynamicObject) (found : Option ObjectData) (r : ℕ) (os : List Operation)
    → answer_seen seen_object x ≡ answer_of_patch r os found → AnswersPatch x (refusal_of (option_map object_data found) os)
refuses-as x found r os e =
    patch-unseen x (refusal_of (option_map object_data found) os) (subst (λ y. AnswersPatch y (refusal_of (option_map object_data found) os)) (sym e) (answer-refuses found r os))

pub kept-held : (x : ObjectAnswer DynamicObject) (old new : ServerState) (f : ServerState → Option (List ℕ → Option Data)) → IsKeptServer x old new → IsKept x (f old) (f new)
kept-held AnswersLater old new f h = ap f h
kept-held (AnswersFault e) old new f h = tt
kept-held (AnswersObject o) old new f h = tt
kept-held (AnswersGone s) old new f h = tt
kept-held AnswersNone old new f h = ap f h
kept-held (AnswersRefusal e) old new f h = ap f h

-- ---- deletions

change-unseen : (c : Change DynamicObject) → answer_seen seen_object (change_answer meta_of c) ≡ change_answer (λ x. x.metadata) (change_seen seen_object c)
change-unseen (Adds o) = refl
change-unseen (Modifies o) = refl
change-unseen (Removes o) = refl

pub deleted-answer : (o : ObjectData) (c : Change DynamicObject) (x : ObjectAnswer DynamicObject) (d : Option (Change ObjectData))
    → x ≡ change_answer meta_of c → Some (change_seen seen_object c) ≡ d → answer_seen seen_object x ≡ deleted_answer o d
deleted-answer o c x d e s = ap (answer_seen seen_object) e ∙ (change-unseen c ∙ ap (deleted_answer o) s)

change-missing : (c : Change ObjectData) (d : Data) → AnswersDelete (change_answer (λ x. x.metadata) c) (Some d)
change-missing (Adds o) d = tt
change-missing (Modifies o) d = tt
change-missing (Removes o) d = tt

deleted-missing : (o : ObjectData) (c : Option (Change ObjectData)) (d : Data) → AnswersDelete (deleted_answer o c) (Some d)
deleted-missing o None d = tt
deleted-missing o (Some c) d = change-missing c d

answer-missing : (found : Option ObjectData) (r now : ℕ) → AnswersDelete (answer_of_delete r now found) (option_map object_data found)
answer-missing None r now = refl
answer-missing (Some o) r now = deleted-missing o (deletion r now o) (object_data o)

delete-unseen : (x : ObjectAnswer DynamicObject) (d : Option Data) → AnswersDelete (answer_seen seen_object x) d → AnswersDelete x d
delete-unseen AnswersLater d h = h
delete-unseen (AnswersFault e) d h = h
delete-unseen (AnswersObject o) None h = h
delete-unseen (AnswersObject o) (Some d) h = h
delete-unseen (AnswersGone s) None h = h
delete-unseen (AnswersGone s) (Some d) h = h
delete-unseen AnswersNone d h = h
delete-unseen (AnswersRefusal e) d h = h

pub missing-as : (x : ObjectAnswer DynamicObject) (found : Option ObjectData) (r now : ℕ)
    → answer_seen seen_object x ≡ answer_of_delete r now found → AnswersDelete x (option_map object_data found)
missing-as x found r now e =
    delete-unseen x (option_map object_data found) (subst (λ y. AnswersDelete y (option_map object_data found)) (sym e) (answer-missing found r now))

-- an object, that it is gone, or a fault is told
abbrev tells : {V : Type 0} → ObjectAnswer V → Bool
tells AnswersLater = false
tells (AnswersFault error) = true
tells (AnswersObject object) = true
tells (AnswersGone status) = true
tells AnswersNone = false
tells (AnswersRefusal refusal) = false

seen-tells : (x : ObjectAnswer DynamicObject) → tells x ≡ tells (answer_seen seen_object x)
seen-tells AnswersLater = refl
seen-tells (AnswersFault e) = refl
seen-tells (AnswersObject o) = refl
seen-tells (AnswersGone s) = refl
seen-tells AnswersNone = refl
seen-tells (AnswersRefusal e) = refl

change-tells : (c : Change ObjectData) → tells (change_answer (λ x. x.metadata) c) ≡ true
change-tells (Adds o) = refl
change-tells (Modifies o) = refl
change-tells (Removes o) = refl

deleted-tells : (o : ObjectData) (c : Option (Change ObjectData)) → tells (deleted_answer o c) ≡ true
deleted-tells o None = refl
deleted-tells o (Some c) = change-tells c

told-kept : (x : ObjectAnswer DynamicObject) (old new : ServerState) → tells x ≡ true → IsKeptServer x old new
told-kept AnswersLater old new h = absurd (true≢false (sym h))
told-kept (AnswersFault f) old new h = tt
told-kept (AnswersObject o) old new h = tt
told-kept (AnswersGone s) old new h = tt
told-kept AnswersNone old new h = absurd (true≢false (sym h))
told-kept (AnswersRefusal f) old new h = absurd (true≢false (sym h))

none-held : (x : ObjectAnswer DynamicObject) (old new : ServerState) → new ≡ old → IsKeptServer x old new
none-held AnswersLater old new e = e
none-held (AnswersFault f) old new e = tt
none-held (AnswersObject p) old new e = tt
none-held (AnswersGone s) old new e = tt
none-held AnswersNone old new e = e
none-held (AnswersRefusal f) old new e = e

pub delete-kept : (x : ObjectAnswer DynamicObject) (found : Option ObjectData) (now : ℕ) (old new : ServerState)
    → answer_seen seen_object x ≡ answer_of_delete (next_revision old) now found → IsLeftByDelete old new now found → IsKeptServer x old new
delete-kept x None now old new e l = none-held x old new l
delete-kept x (Some o) now old new e l =
    told-kept x old new (seen-tells x ∙ (ap tells e ∙ deleted-tells o (deletion (next_revision old) now o)))

pub held-at : (found : Option ObjectData) (o : ObjectData) (P : ObjectData → Type 0) → found ≡ Some o → IsHeldAnd found P → P o
held-at found o P e h = subst (λ f. IsHeldAnd f P) e h

-- ---- no call fails

seen-fault : (x : ObjectAnswer DynamicObject) → is_object_fault x ≡ is_object_fault (answer_seen seen_object x)
seen-fault AnswersLater = refl
seen-fault (AnswersFault e) = refl
seen-fault (AnswersObject o) = refl
seen-fault (AnswersGone s) = refl
seen-fault AnswersNone = refl
seen-fault (AnswersRefusal e) = refl

patched-fault : (c : Result (Change ObjectData) PatchRefusal) → is_object_fault (patched_answer c) ≡ false
patched-fault (Ok c) = refl
patched-fault (Err e) = refl

patch-fault : (found : Option ObjectData) (r : ℕ) (os : List Operation) → is_object_fault (answer_of_patch r os found) ≡ false
patch-fault None r os = refl
patch-fault (Some o) r os = patched-fault (patch_change r os o)

never : (b : Bool) → b ≡ false → FaultRose b 0 0
never b e = λ t. absurd (true≢false (sym t ∙ e))

pub patch-rose : (x : ObjectAnswer DynamicObject) (found : Option ObjectData) (r : ℕ) (os : List Operation)
    → answer_seen seen_object x ≡ answer_of_patch r os found → FaultRose (is_object_fault x) 0 0
patch-rose x found r os e = never (is_object_fault x) (seen-fault x ∙ (ap is_object_fault e ∙ patch-fault found r os))
