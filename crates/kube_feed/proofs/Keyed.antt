-- What is stored in what a handle reads is stored under its own references.
use Rattle.std.proofs.Common.{◌≡◌, Bool, true, false, not, cond, List, [], ◌∷◌, map, if◌then◌else◌, refl, sym, ap, ap₂, ◌∙◌}
use Rattle.std.specs.List.{fold}
use Rattle.kube_meta.specs.declared.metadata.ObjectMeta.{ObjectMeta}
use Rattle.kube_meta.specs.Keys.{key_of}
use Rattle.kube_meta.specs.Reference.{ObjectType, Reference, same_reference}
use Rattle.kube_history.specs.CoreWorld.{CoreWorld}
use Rattle.kube_watch.specs.declared.event.Event.TheVariants.{Apply, Delete, Init, InitApply, InitDone}
use Rattle.kube_reflect.specs.Cached.{Kept, keyed, put_under, drop_under, nothing}
use Rattle.kube_reflect.specs.Entries.{after_entry, kept_by}
use Rattle.kube_reflect.specs.declared.copies.law.Entry.{Entry}
use Rattle.kube_reflect.specs.declared.copies.law.Entry.TheVariants.{Told, Shown, End}
use Rattle.kube_reflect.specs.Published.{stored_in}
use Rattle.kube_reflect.specs.Reads.{objects}
use Rattle.kube_reflect.specs.Writers.{Reader}
use Rattle.kube_core.specs.Cores.{IsOfType}
use Rattle.kube_feed.specs.Requests.{typed_as}
use Rattle.kube_feed.proofs.Requested.{map-map}

module _ {O : Type 0} (key : O → Reference) where
  -- each stands beside its own reference
  abbrev AreOwn : List (Reference × O) → Type 0
  AreOwn [] = Unit {0}
  AreOwn (p ∷ ps) = (p.0 ≡ key p.1) × AreOwn ps

  put-own : (ps : List (Reference × O)) (o : O) → AreOwn ps → AreOwn (put_under ps (keyed key o))
  put-own [] o a = (refl, tt)
  put-own (p ∷ ps) o a = go (same_reference p.0 (key o)) (put-own ps o a.1)
    where
      go : (b : Bool) → AreOwn (put_under ps (keyed key o)) → AreOwn (if b then keyed key o ∷ ps else p ∷ put_under ps (keyed key o))
      go true k = (refl, a.1)
      go false k = (a.0, k)

  drop-own : (ps : List (Reference × O)) (o : O) → AreOwn ps → AreOwn (drop_under ps (keyed key o))
  drop-own [] o a = tt
  drop-own (p ∷ ps) o a = go (not (same_reference p.0 (key o))) (drop-own ps o a.1)
    where
      go : (b : Bool) → AreOwn (drop_under ps (keyed key o)) → AreOwn (cond b (p ∷ drop_under ps (keyed key o)) (drop_under ps (keyed key o)))
      go true k = (a.0, k)
      go false k = k

  abbrev IsOwn : Kept O → Type 0
  IsOwn k = AreOwn k.cache × AreOwn k.buffer

  entry-own : (k : Kept O) (e : Entry O) → IsOwn k → IsOwn (after_entry key k e)
  entry-own k (Told (Apply o)) a = (put-own k.cache o a.0, a.1)
  entry-own k (Told (Delete o)) a = (drop-own k.cache o a.0, a.1)
  entry-own k (Told Init) a = (a.0, tt)
  entry-own k (Told (InitApply o)) a = (a.0, put-own k.buffer o a.1)
  entry-own k (Told InitDone) a = (a.1, tt)
  entry-own k Shown a = a
  entry-own k End a = a

  all-own : (k : Kept O) (es : List (Entry O)) → IsOwn k → IsOwn (fold (after_entry key) k es)
  all-own k [] a = a
  all-own k (e ∷ es) a = all-own (after_entry key k e) es (entry-own k e a)

  keys-own : (ps : List (Reference × O)) → AreOwn ps → map (λ (p : Reference × O). p.0) ps ≡ map key (map (λ (p : Reference × O). p.1) ps)
  keys-own [] a = refl
  keys-own (p ∷ ps) a = ap₂ (λ r rs. r ∷ rs) a.0 (keys-own ps a.1)

  -- so the references of what is stored are the objects' own
  pub stored-keys : (es : List (Entry O)) → map (λ (p : Reference × O). p.0) (kept_by key es).cache ≡ map key (map (λ (p : Reference × O). p.1) (kept_by key es).cache)
  stored-keys es = keys-own (kept_by key es).cache (all-own nothing es (tt, tt)).0

-- the keys that a read gives, each as that of an object of one type, are those of the objects that it finds
pub keys-in : {K : Type 0} (meta : K → ObjectMeta) (new : Reader K) (kind : ObjectType) (core : CoreWorld K) (keys typed : List Reference) → IsOfType kind meta core → typed ≡ map (typed_as kind) keys → keys ≡ map (λ (e : Reference × K). e.0) (stored_in meta new)
    → typed ≡ map core.key (objects (stored_in meta new))
keys-in meta new kind core keys typed is same e =
    same ∙ (ap (map (typed_as kind)) (e ∙ stored-keys (λ o. key_of new.kind (meta o)) new.seen) ∙ (map-map (λ o. key_of new.kind (meta o)) (typed_as kind) (objects (stored_in meta new)) ∙ ap (λ (key : _ → Reference). map key (objects (stored_in meta new))) (sym is.key)))
