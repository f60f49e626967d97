-- A patch leaves an object's name and namespace as they were.
use Rattle.std.proofs.Common.{◌≡◌, ℕ, ◌&&◌, ℤ, List, [], ◌∷◌, Option, Some, None, Result, Ok, Err, Bool, true, false, cond, option_map, bytes_eq, codes, refl, sym, ap, ◌∙◌, subst, true≢false}
use Rattle.std.specs.Prelude.{option_and_then, unwrap_or, decimal, if◌then◌else◌}
use Rattle.std.specs.Option.{option_eq}
use Rattle.std.proofs.lemmas.Slice.Eq.{bytes_eq-Decides}
use Rattle.serde_json.specs.Data.{Data, null, boolean, number, string, array, object, Members, no_members, member, put}
use Rattle.serde_json.specs.Find.{get, get_member, as_str}
use Rattle.serde_json.proofs.Views.{get_member-put, get_member-put_other}
use Rattle.kube_meta.specs.declared.metadata.ObjectMeta.{ObjectMeta}
use Rattle.kube_meta.specs.declared.metadata.OwnerReference.{OwnerReference}
use Rattle.kube_meta.specs.declared.metadata.TypeMeta.{TypeMeta}
use Rattle.kube_meta.specs.declared.object_fault.ObjectFault.{ObjectFault}
use Rattle.kube_meta.specs.Places.{◌>>=◌, under, beneath, escaped, misshapen}
use Rattle.kube_meta.specs.Reading.{ObjectData, found, text_at, whole_at, texts_at, list_at, optional, maybe, maybe_field, full_field, object_at, owner_at, meta_at, types_at, others, content_at, object_data_at}
use Rattle.kube_meta.specs.Resources.{no_metadata}
use Rattle.kube_meta.specs.Writing.{put_if, with_fields, meta_fields, meta_data, type_fields, content_members, object_data}
use Rattle.kube_api.specs.declared.patch.PatchRefusal.{PatchRefusal}
use Rattle.kube_api.specs.declared.patch.PatchRefusal.TheVariants.{NotAnObject}
use Rattle.kube_api.specs.Patches.{Operation, performed_from, then_by, unless_changed, stays, is_object, is_same_object, has_same, text_of, patched}

-- ---- what fields leave under a name

abbrev some_or : Option Data → Option Data → Option Data
some_or None d = d
some_or (Some v) d = Some v

some_or-none : (v : Option Data) → some_or v None ≡ v
some_or-none None = refl
some_or-none (Some v) = refl

abbrev given : List ℕ → List (List ℕ × Option Data) → Option Data → Option Data
given q [] d = d
given q (f ∷ fs) d = given q fs (cond (bytes_eq q f.0) (some_or f.1 d) d)

get-put_at : (q k : List ℕ) (v : Data) (ms : Members) (b : Bool) → bytes_eq q k ≡ b → get_member q (put k v ms) ≡ cond b (Some v) (get_member q ms)
get-put_at q k v ms true e = subst (λ p. get_member p (put k v ms) ≡ Some v) (sym ((bytes_eq-Decides q k).0 e)) (get_member-put k v ms)
get-put_at q k v ms false e = get_member-put_other q k v ms (λ h. true≢false (sym ((bytes_eq-Decides q k).1 h) ∙ e))

kept : (b : Bool) (d : Option Data) → d ≡ cond b d d
kept true d = refl
kept false d = refl

get-put_if : (q k : List ℕ) (v : Option Data) (ms : Members) → get_member q (put_if k v ms) ≡ cond (bytes_eq q k) (some_or v (get_member q ms)) (get_member q ms)
get-put_if q k None ms = kept (bytes_eq q k) (get_member q ms)
get-put_if q k (Some v) ms = get-put_at q k v ms (bytes_eq q k) refl

get-with_fields : (q : List ℕ) (fs : List (List ℕ × Option Data)) (ms : Members) → get_member q (with_fields fs ms) ≡ given q fs (get_member q ms)
get-with_fields q [] ms = refl
get-with_fields q (f ∷ fs) ms = get-with_fields q fs (put_if f.0 f.1 ms) ∙ ap (given q fs) (get-put_if q f.0 f.1 ms)

under_name : (q : List ℕ) (m : ObjectMeta) (v : Option Data) → given q (meta_fields m) None ≡ some_or v None → get_member q (with_fields (meta_fields m) no_members) ≡ v
under_name q m v e = get-with_fields q (meta_fields m) no_members ∙ (e ∙ some_or-none v)

-- ---- the texts of a document that was written

text_back : (o : Option (List ℕ)) → option_and_then as_str (option_map string o) ≡ o
text_back None = refl
text_back (Some s) = refl

name-in_meta : (m : ObjectMeta) → get (codes "name") (meta_data m) ≡ option_map string m.name
unfolding meta_data meta_fields
name-in_meta m = under_name (codes "name") m (option_map string m.name) refl

namespace-in_meta : (m : ObjectMeta) → get (codes "namespace") (meta_data m) ≡ option_map string m.namespace
unfolding meta_data meta_fields
namespace-in_meta m = under_name (codes "namespace") m (option_map string m.namespace) refl

meta-in_data : (o : ObjectData) → get (codes "metadata") (object_data o) ≡ Some (meta_data o.metadata)
unfolding object_data
meta-in_data o = get_member-put (codes "metadata") (meta_data o.metadata) (with_fields (type_fields o.types) (others (content_members o.content)))

name-written : (o : ObjectData) → text_of (codes "name") (object_data o) ≡ o.metadata.name
name-written o =
    ap (λ d. option_and_then as_str (option_and_then (get (codes "name")) d)) (meta-in_data o)
    ∙ (ap (option_and_then as_str) (name-in_meta o.metadata) ∙ text_back o.metadata.name)

namespace-written : (o : ObjectData) → text_of (codes "namespace") (object_data o) ≡ o.metadata.namespace
namespace-written o =
    ap (λ d. option_and_then as_str (option_and_then (get (codes "namespace")) d)) (meta-in_data o)
    ∙ (ap (option_and_then as_str) (namespace-in_meta o.metadata) ∙ text_back o.metadata.namespace)

-- ---- the texts of a document that is read

abbrev value_or : {A E : Type 0} → A → Result A E → A
value_or a (Ok b) = b
value_or a (Err e) = a

-- what was answered is one value, and no fault
ok-same : {A E : Type 0} (x : Result A E) (a b : A) → x ≡ Ok a → x ≡ Ok b → a ≡ b
ok-same x a b h k = ap (value_or a) (sym h ∙ k)

err-no : {A E : Type 0} (x : Result A E) (e : E) (a : A) → x ≡ Err e → x ≡ Ok a → ⊥
err-no x e a h k = cc

-- a text that may be absent
ok-text : (d : Data) (t : Option (List ℕ)) → optional text_at d ≡ Ok t → t ≡ as_str d
ok-text null t h = sym (ok-same _ None t refl h)
ok-text (boolean b) t h = absurd (err-no _ _ t refl h)
ok-text (number n) t h = absurd (err-no _ _ t refl h)
ok-text (string s) t h = sym (ok-same _ (Some s) t refl h)
ok-text (array ds) t h = absurd (err-no _ _ t refl h)
ok-text (object ms) t h = absurd (err-no _ _ t refl h)

beneath-ok : {A : Type 0} (part : List ℕ) (r : Result A ObjectFault) (a : A) → beneath part r ≡ Ok a → r ≡ Ok a
beneath-ok part (Ok x) a h = h
beneath-ok part (Err e) a h = absurd (err-no _ _ a refl h)

maybe-text : (k : List ℕ) (d : Option Data) (t : Option (List ℕ)) → maybe k text_at d ≡ Ok t → t ≡ option_and_then as_str d
maybe-text k None t h = sym (ok-same _ None t refl h)
maybe-text k (Some d) t h = ok-text d t (beneath-ok (escaped k) (optional text_at d) t h)

text-read : (k : List ℕ) (d : Data) (t : Option (List ℕ)) → maybe_field k text_at d ≡ Ok t → t ≡ option_and_then as_str (get k d)
unfolding maybe_field
text-read k d t h = maybe-text k (get k d) t h

-- the metadata of what is read part by part
abbrev all_read : Result (Unit {0}) ObjectFault → (n ns u v x : Result (Option (List ℕ)) ObjectFault) → Result (Option ℤ) ObjectFault
    → (l a : Result (Option (List (List ℕ × List ℕ))) ObjectFault) → Result (Option (List (List ℕ))) ObjectFault → Result (Option (List OwnerReference)) ObjectFault
    → Result ObjectMeta ObjectFault
all_read o n ns u v x g l a f w = do
  _ ← o
  name ← n
  namespace ← ns
  uid ← u
  version ← v
  deleted ← x
  generation ← g
  labels ← l
  annotations ← a
  finalizers ← f
  owners ← w
  Ok (record {
    name = name;
    namespace = namespace;
    uid = uid;
    resource_version = version;
    deletion_timestamp = deleted;
    generation = generation;
    labels = labels;
    annotations = annotations;
    finalizers = finalizers;
    owner_references = owners;
  })

-- its name and namespace are those that were read
record IsRead (n ns : Result (Option (List ℕ)) ObjectFault) (m : ObjectMeta) : Type 0 where
  pub name : n ≡ Ok m.name
  pub namespace : ns ≡ Ok m.namespace

read-parts : (o : Result (Unit {0}) ObjectFault) (n ns u v x : Result (Option (List ℕ)) ObjectFault) (g : Result (Option ℤ) ObjectFault)
    (l a : Result (Option (List (List ℕ × List ℕ))) ObjectFault) (f : Result (Option (List (List ℕ))) ObjectFault) (w : Result (Option (List OwnerReference)) ObjectFault)
    (m : ObjectMeta) → all_read o n ns u v x g l a f w ≡ Ok m → IsRead n ns m
read-parts (Err e) n ns u v x g l a f w m h = absurd (err-no _ _ m refl h)
read-parts (Ok o) (Err e) ns u v x g l a f w m h = absurd (err-no _ _ m refl h)
read-parts (Ok o) (Ok n) (Err e) u v x g l a f w m h = absurd (err-no _ _ m refl h)
read-parts (Ok o) (Ok n) (Ok ns) (Err e) v x g l a f w m h = absurd (err-no _ _ m refl h)
read-parts (Ok o) (Ok n) (Ok ns) (Ok u) (Err e) x g l a f w m h = absurd (err-no _ _ m refl h)
read-parts (Ok o) (Ok n) (Ok ns) (Ok u) (Ok v) (Err e) g l a f w m h = absurd (err-no _ _ m refl h)
read-parts (Ok o) (Ok n) (Ok ns) (Ok u) (Ok v) (Ok x) (Err e) l a f w m h = absurd (err-no _ _ m refl h)
read-parts (Ok o) (Ok n) (Ok ns) (Ok u) (Ok v) (Ok x) (Ok g) (Err e) a f w m h = absurd (err-no _ _ m refl h)
read-parts (Ok o) (Ok n) (Ok ns) (Ok u) (Ok v) (Ok x) (Ok g) (Ok l) (Err e) f w m h = absurd (err-no _ _ m refl h)
read-parts (Ok o) (Ok n) (Ok ns) (Ok u) (Ok v) (Ok x) (Ok g) (Ok l) (Ok a) (Err e) w m h = absurd (err-no _ _ m refl h)
read-parts (Ok o) (Ok n) (Ok ns) (Ok u) (Ok v) (Ok x) (Ok g) (Ok l) (Ok a) (Ok f) (Err e) m h = absurd (err-no _ _ m refl h)
read-parts (Ok o) (Ok n) (Ok ns) (Ok u) (Ok v) (Ok x) (Ok g) (Ok l) (Ok a) (Ok f) (Ok w) m h =
    let e = ok-same _ _ m refl h in record { name = ap (λ k. Ok k.name) e; namespace = ap (λ k. Ok k.namespace) e }

-- the name and the namespace of a document's metadata
record IsNamed (d : Option Data) (m : ObjectMeta) : Type 0 where
  pub name : m.name ≡ option_and_then as_str (option_and_then (get (codes "name")) d)
  pub namespace : m.namespace ≡ option_and_then as_str (option_and_then (get (codes "namespace")) d)

meta-read : (d : Data) (m : ObjectMeta) → meta_at d ≡ Ok m → IsNamed (Some d) m
unfolding meta_at
meta-read d m h =
    let r = read-parts (object_at d) (maybe_field (codes "name") text_at d) (maybe_field (codes "namespace") text_at d) (maybe_field (codes "uid") text_at d)
    (maybe_field (codes "resourceVersion") text_at d) (maybe_field (codes "deletionTimestamp") text_at d) (maybe_field (codes "generation") whole_at d)
    (full_field (codes "labels") texts_at d) (full_field (codes "annotations") texts_at d) (full_field (codes "finalizers") (list_at text_at) d)
    (full_field (codes "ownerReferences") (list_at owner_at) d) m h in
    record { name = text-read (codes "name") d m.name r.name; namespace = text-read (codes "namespace") d m.namespace r.namespace }

-- read where it is there
some-read : (d : Data) (r : Result ObjectMeta ObjectFault) (m : Option ObjectMeta) → (r >>= λ x. Ok (Some x)) ≡ Ok m → r ≡ meta_at d → IsNamed (Some d) (unwrap_or m no_metadata)
some-read d (Ok x) m h e = subst (λ k. IsNamed (Some d) (unwrap_or k no_metadata)) (ok-same _ (Some x) m refl h) (meta-read d x (sym e))
some-read d (Err f) m h e = absurd (err-no _ _ m refl h)

optional-read : (d : Data) (m : Option ObjectMeta) → optional meta_at d ≡ Ok m → IsNamed (Some d) (unwrap_or m no_metadata)
optional-read null m h = subst (λ k. IsNamed (Some null) (unwrap_or k no_metadata)) (ok-same _ None m refl h) (record { name = refl; namespace = refl })
optional-read (boolean b) m h = some-read (boolean b) (meta_at (boolean b)) m h refl
optional-read (number n) m h = some-read (number n) (meta_at (number n)) m h refl
optional-read (string s) m h = some-read (string s) (meta_at (string s)) m h refl
optional-read (array ds) m h = some-read (array ds) (meta_at (array ds)) m h refl
optional-read (object ms) m h = some-read (object ms) (meta_at (object ms)) m h refl

maybe-read : (k : List ℕ) (d : Option Data) (m : Option ObjectMeta) → maybe k meta_at d ≡ Ok m → IsNamed d (unwrap_or m no_metadata)
maybe-read k None m h = subst (λ j. IsNamed None (unwrap_or j no_metadata)) (ok-same _ None m refl h) (record { name = refl; namespace = refl })
maybe-read k (Some d) m h = optional-read d m (beneath-ok (escaped k) (optional meta_at d) m h)

-- the object of what is read part by part
abbrev object_read : Result (Unit {0}) ObjectFault → Result (Option TypeMeta) ObjectFault → Result (Option ObjectMeta) ObjectFault → Result Data ObjectFault → Result ObjectData ObjectFault
object_read o t m c = do
  _ ← o
  types ← t
  meta ← m
  content ← c
  Ok (record { types = types; metadata = unwrap_or meta no_metadata; content = content })

object-parts : (o : Result (Unit {0}) ObjectFault) (t : Result (Option TypeMeta) ObjectFault) (m : Result (Option ObjectMeta) ObjectFault) (c : Result Data ObjectFault) (d : Option Data)
    (p : ObjectData) → object_read o t m c ≡ Ok p → ((k : Option ObjectMeta) → m ≡ Ok k → IsNamed d (unwrap_or k no_metadata)) → IsNamed d p.metadata
object-parts (Err e) t m c d p h q = absurd (err-no _ _ p refl h)
object-parts (Ok o) (Err e) m c d p h q = absurd (err-no _ _ p refl h)
object-parts (Ok o) (Ok t) (Err e) c d p h q = absurd (err-no _ _ p refl h)
object-parts (Ok o) (Ok t) (Ok m) (Err e) d p h q = absurd (err-no _ _ p refl h)
object-parts (Ok o) (Ok t) (Ok m) (Ok c) d p h q = subst (λ x. IsNamed d x.metadata) (ok-same _ _ p refl h) (q m refl)

maybe-field-read : (d : Data) (m : Option ObjectMeta) → maybe_field (codes "metadata") meta_at d ≡ Ok m → IsNamed (get (codes "metadata") d) (unwrap_or m no_metadata)
unfolding maybe_field
maybe-field-read d m h = maybe-read (codes "metadata") (get (codes "metadata") d) m h

object-named : (d : Data) (p : ObjectData) → object_data_at d ≡ Ok p → IsNamed (get (codes "metadata") d) p.metadata
unfolding object_data_at
object-named d p h =
    object-parts (object_at d) (types_at d) (maybe_field (codes "metadata") meta_at d) (content_at d) (get (codes "metadata") d) p h (maybe-field-read d)

-- ---- what a patch leaves

pub then-ok : (r : Result Data PatchRefusal) (f : Data → Result Data PatchRefusal) (e : Data) → then_by r f ≡ Ok e → (d : Data) × (f d ≡ Ok e)
then-ok (Ok d) f e h = (d, h)
then-ok (Err x) f e h = absurd (err-no _ _ e refl h)

pub unless-ok : (b : Bool) (d e : Data) → unless_changed b d ≡ Ok e → (b ≡ true) × (d ≡ e)
unless-ok true d e h = (refl, ok-same _ d e refl h)
unless-ok false d e h = absurd (err-no _ _ e refl h)

pub and-first : (a b : Bool) → (a && b) ≡ true → a ≡ true
and-first true b h = refl
and-first false b h = h

and-second : (a b : Bool) → (a && b) ≡ true → b ≡ true
and-second true b h = h
and-second false b h = absurd (true≢false (sym h))

same-texts : (a b : Option (List ℕ)) → option_eq bytes_eq a b ≡ true → a ≡ b
same-texts None None h = refl
same-texts None (Some b) h = absurd (true≢false (sym h))
same-texts (Some a) None h = absurd (true≢false (sym h))
same-texts (Some a) (Some b) h = ap Some ((bytes_eq-Decides a b).0 h)

-- the name and the namespace stay
pub record IsSameNamed (o p : ObjectData) : Type 0 where
  pub name : p.metadata.name ≡ o.metadata.name
  pub namespace : p.metadata.namespace ≡ o.metadata.namespace

stays-named : (o p : ObjectData) (e : Data) → stays (object_data o) e ≡ true → object_data_at e ≡ Ok p → IsSameNamed o p
stays-named o p e s h =
    let same = and-second (is_object e) (is_same_object (object_data o) e) s in
    let names = has_same (codes "name") (object_data o) e in
    let namespaces = has_same (codes "namespace") (object_data o) e in
    let uids = has_same (codes "uid") (object_data o) e in
    let both = and-first (names && namespaces) uids same in
    let first = and-first names namespaces both in
    let second = and-second names namespaces both in
    let n = object-named e p h in
    record {
      name = n.name ∙ (sym (same-texts _ _ first) ∙ name-written o);
      namespace = n.namespace ∙ (sym (same-texts _ _ second) ∙ namespace-written o);
    }

pub patched-named : (os : List Operation) (o p : ObjectData) (e : Data) → patched os (object_data o) ≡ Ok e → object_data_at e ≡ Ok p → IsSameNamed o p
patched-named os o p e h r =
    let t = then-ok (performed_from 0 os (object_data o)) (λ x. unless_changed (stays (object_data o) x) x) e h in
    let u = unless-ok (stays (object_data o) t.0) t.0 e t.1 in
    stays-named o p e (subst (λ x. stays (object_data o) x ≡ true) u.1 u.0) r
