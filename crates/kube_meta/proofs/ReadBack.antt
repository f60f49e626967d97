-- What is read of an object that was written.
use Rattle.std.proofs.Common.{◌≡◌, ℕ, suc, ℤ, pos, negsuc, ◌^◌, nat_lt, ◌||◌, List, [], ◌∷◌, Option, Some, None, Result, Ok, IfSome, Bool, true, false, cond, option_map, map, is_some, bytes_eq, codes, refl, sym, ap, ◌∙◌, subst, true≢false, arith}
use Rattle.std.specs.declared.cmp.Ordering.{Ordering}
use Rattle.std.specs.declared.cmp.Ordering.TheVariants.{Less, Equal, Greater}
use Rattle.std.specs.Ordering.{nat_cmp, is_eq, match_ordering}
use Rattle.std.specs.Cmp.Lexicographic.{slice_cmp}
use Rattle.std.proofs.lemmas.Map.Text.{is_eq-slice_cmp}
use Rattle.std.proofs.lemmas.Slice.Eq.{bytes_eq-Decides}
use Rattle.serde_json.specs.Data.{unsigned, negative, float, Data, null, boolean, number, string, array, object, Items, no_items, item, Members, no_members, member, put}
use Rattle.serde_json.specs.Find.{get_member, of_integer}
use Rattle.serde_json.specs.Written.{has_float, items_have_float, members_have_float}
use Rattle.serde_json.proofs.Views.{get_member-put, get_member-put_other}
use Rattle.kube_meta.specs.declared.metadata.ObjectMeta.{ObjectMeta}
use Rattle.kube_meta.specs.declared.metadata.OwnerReference.{OwnerReference}
use Rattle.kube_meta.specs.declared.metadata.TypeMeta.{TypeMeta}
use Rattle.kube_meta.specs.declared.object_fault.ObjectFault.{ObjectFault}
use Rattle.kube_meta.specs.Places.{◌>>=◌}
use Rattle.kube_meta.specs.Reading.{ObjectData, text_at, whole_at, pairs_at, texts_at, items_at, list_at, optional, maybe_field, full_field, field, unless_empty, object_at, owner_at, meta_at, has_types, types_at, without, others, whole_numbers, whole_items, whole_members, content_at, object_data_at}
use Rattle.serde_json.specs.View.{items_of}
use Rattle.kube_meta.specs.Writing.{put_if, with_fields, text_members, texts_data, list_data, owner_data, meta_fields, meta_data, type_fields, content_members, object_data, IsContent, IsSmall, without_empties, as_read}

-- ---- look-ups among fields

abbrev pub some_or : Option Data → Option Data → Option Data
some_or None d = d
some_or (Some v) d = Some v

some_or-none : (v : Option Data) → some_or v None ≡ v
some_or-none None = refl
some_or-none (Some v) = refl

-- what fields leave under a name, over what was there
abbrev pub given : List ℕ → List (List ℕ × Option Data) → Option Data → Option Data
given q [] d = d
given q (f ∷ fs) d = given q fs (cond (bytes_eq q f.0) (some_or f.1 d) d)

pub get-put_at : (q k : List ℕ) (v : Data) (ms : Members) (b : Bool) → bytes_eq q k ≡ b → get_member q (put k v ms) ≡ cond b (Some v) (get_member q ms)
get-put_at q k v ms true e = subst (λ p. get_member p (put k v ms) ≡ Some v) (sym ((bytes_eq-Decides q k).0 e)) (get_member-put k v ms)
get-put_at q k v ms false e = get_member-put_other q k v ms (λ h. true≢false (sym ((bytes_eq-Decides q k).1 h) ∙ e))

kept : (b : Bool) (d : Option Data) → d ≡ cond b d d
kept true d = refl
kept false d = refl

get-put_if : (q k : List ℕ) (v : Option Data) (ms : Members) → get_member q (put_if k v ms) ≡ cond (bytes_eq q k) (some_or v (get_member q ms)) (get_member q ms)
get-put_if q k None ms = kept (bytes_eq q k) (get_member q ms)
get-put_if q k (Some v) ms = get-put_at q k v ms (bytes_eq q k) refl

get-with_fields : (q : List ℕ) (fs : List (List ℕ × Option Data)) (ms : Members) → get_member q (with_fields fs ms) ≡ given q fs (get_member q ms)
get-with_fields q [] ms = refl
get-with_fields q (f ∷ fs) ms = get-with_fields q fs (put_if f.0 f.1 ms) ∙ ap (given q fs) (get-put_if q f.0 f.1 ms)

-- ---- members one by one

read_member : {A : Type 0} (k : List ℕ) (f : Data → Result A ObjectFault) (g : A → Data) (o : Option A) (ms : Members) → get_member k ms ≡ option_map g o
    → IfSome o (λ x. optional f (g x) ≡ Ok (Some x)) → maybe_field k f (object ms) ≡ Ok o
unfolding maybe_field
read_member k f g None ms e h = rw e refl
read_member k f g (Some x) ms e h = rw (e, h) refl

unless_empty-twice : {A : Type 0} (o : Option (List A)) → unless_empty (unless_empty o) ≡ unless_empty o
unless_empty-twice None = refl
unless_empty-twice (Some []) = refl
unless_empty-twice (Some (x ∷ xs)) = refl

each : {A : Type 0} (P : A → Type 0) (o : Option A) → ((x : A) → P x) → IfSome o P
each P None h = tt
each P (Some x) h = h x

read_full : {A : Type 0} (k : List ℕ) (f : Data → Result (List A) ObjectFault) (g : List A → Data) (o : Option (List A)) (ms : Members) → get_member k ms ≡ option_map g (unless_empty o)
    → ((xs : List A) → optional f (g xs) ≡ Ok (Some xs)) → full_field k f (object ms) ≡ Ok (unless_empty o)
unfolding full_field
read_full k f g o ms e h =
    ap (λ r. r >>= λ p. Ok (unless_empty p)) (read_member k f g (unless_empty o) ms e (each _ (unless_empty o) h)) ∙ ap Ok (unless_empty-twice o)

read_text : (k : List ℕ) (o : Option (List ℕ)) (ms : Members) → get_member k ms ≡ option_map string o → maybe_field k text_at (object ms) ≡ Ok o
read_text k o ms e = read_member k text_at string o ms e (each _ o (λ x. refl))

-- ---- texts under names, and lists

pairs_back : (ps : List (List ℕ × List ℕ)) → pairs_at (text_members ps) ≡ Ok ps
pairs_back [] = refl
pairs_back (p ∷ ps) = rw (pairs_back ps) refl

texts_back : (ps : List (List ℕ × List ℕ)) → optional texts_at (texts_data ps) ≡ Ok (Some ps)
unfolding texts_at
texts_back ps = rw (pairs_back ps) refl

items_back : {A : Type 0} (f : Data → Result A ObjectFault) (g : A → Data) → ((x : A) → f (g x) ≡ Ok x) → (i : ℕ) (xs : List A) → items_at f i (items_of (map g xs)) ≡ Ok xs
items_back f g h i [] = refl
items_back f g h i (x ∷ xs) = rw (h x, items_back f g h (suc i) xs) refl

list_back : {A : Type 0} (f : Data → Result A ObjectFault) (g : A → Data) → ((x : A) → f (g x) ≡ Ok x) → (xs : List A) → optional (list_at f) (list_data g xs) ≡ Ok (Some xs)
unfolding list_at
list_back f g h xs = rw (items_back f g h 0 xs) refl

owner_back : (o : OwnerReference) → owner_at (owner_data o) ≡ Ok o
unfolding owner_at object_at field
owner_back o = refl

-- ---- metadata

number_back : (z : ℤ) → IsSmall z → optional whole_at (number (of_integer z)) ≡ Ok (Some z)
number_back (pos n) h = let e : nat_lt n (2 ^ 63) ≡ true = grind arith in rw e refl
number_back (negsuc n) h = refl

numbers_back : (o : Option ℤ) → IfSome o IsSmall → IfSome o (λ z. optional whole_at (number (of_integer z)) ≡ Ok (Some z))
numbers_back None h = tt
numbers_back (Some z) h = number_back z h

pub under_name : (q : List ℕ) (m : ObjectMeta) (v : Option Data) → given q (meta_fields m) None ≡ some_or v None → get_member q (with_fields (meta_fields m) no_members) ≡ v
under_name q m v e = get-with_fields q (meta_fields m) no_members ∙ e ∙ some_or-none v

pub meta_back : (m : ObjectMeta) → IfSome m.generation IsSmall → meta_at (meta_data m) ≡ Ok (without_empties m)
unfolding meta_at meta_data object_at meta_fields
meta_back m h =
    let ms = with_fields (meta_fields m) no_members in
    let name = read_text (codes "name") m.name ms (under_name (codes "name") m _ refl) in
    let namespace = read_text (codes "namespace") m.namespace ms (under_name (codes "namespace") m _ refl) in
    let uid = read_text (codes "uid") m.uid ms (under_name (codes "uid") m _ refl) in
    let version = read_text (codes "resourceVersion") m.resource_version ms (under_name (codes "resourceVersion") m _ refl) in
    let deleted = read_text (codes "deletionTimestamp") m.deletion_timestamp ms (under_name (codes "deletionTimestamp") m _ refl) in
    let generation = read_member (codes "generation") whole_at (λ z. number (of_integer z)) m.generation ms (under_name (codes "generation") m _ refl) (numbers_back m.generation h) in
    let labels = read_full (codes "labels") texts_at texts_data m.labels ms (under_name (codes "labels") m _ refl) texts_back in
    let annotations = read_full (codes "annotations") texts_at texts_data m.annotations ms (under_name (codes "annotations") m _ refl) texts_back in
    let finalizers = read_full (codes "finalizers") (list_at text_at) (list_data string) m.finalizers ms (under_name (codes "finalizers") m _ refl) (list_back text_at string (λ x. refl)) in
    let owners = read_full (codes "ownerReferences") (list_at owner_at) (list_data owner_data) m.owner_references ms (under_name (codes "ownerReferences") m _ refl) (list_back owner_at owner_data owner_back) in
    rw (name, namespace, uid, version, deleted, generation, labels, annotations, finalizers, owners) refl

-- ---- the other members

some_is_none : (e : Data) → Some e ≡ None → ⊥
some_is_none e h = true≢false (ap is_some h)

pub same_text : (k : List ℕ) → bytes_eq k k ≡ true
same_text k = (bytes_eq-Decides k k).1 refl

pub other_text : (k l : List ℕ) (o : Ordering) → slice_cmp nat_cmp k l ≡ o → is_eq o ≡ false → bytes_eq k l ≡ false
other_text k l o e h = sym (is_eq-slice_cmp k l) ∙ ap is_eq e ∙ h

without-absent_at : (k l : List ℕ) (e : Data) (ms : Members) (o : Ordering) → slice_cmp nat_cmp k l ≡ o → match_ordering o (get_member k ms) (Some e) (get_member k ms) ≡ None
    → (get_member k ms ≡ None → without k ms ≡ ms) → without k (member l e ms) ≡ member l e ms
without-absent_at k l e ms Less is h more = rw (other_text k l Less is refl, more h) refl
without-absent_at k l e ms Equal is h more = absurd (some_is_none e h)
without-absent_at k l e ms Greater is h more = rw (other_text k l Greater is refl, more h) refl

without-absent : (k : List ℕ) (ms : Members) → get_member k ms ≡ None → without k ms ≡ ms
without-absent k no_members h = refl
without-absent k (member l e ms) h = without-absent_at k l e ms (slice_cmp nat_cmp k l) refl h (without-absent k ms)

without-put_at : (k l : List ℕ) (d e : Data) (ms : Members) (o : Ordering) → slice_cmp nat_cmp k l ≡ o → match_ordering o (get_member k ms) (Some e) (get_member k ms) ≡ None
    → (get_member k ms ≡ None → without k (put k d ms) ≡ ms) → without k (match_ordering o (member k d (member l e ms)) (member l d ms) (member l e (put k d ms))) ≡ member l e ms
without-put_at k l d e ms Less is h more = rw (same_text k) refl
without-put_at k l d e ms Equal is h more = absurd (some_is_none e h)
without-put_at k l d e ms Greater is h more = rw (other_text k l Greater is refl, more h) refl

without-put : (k : List ℕ) (d : Data) (ms : Members) → get_member k ms ≡ None → without k (put k d ms) ≡ ms
without-put k d no_members h = rw (same_text k) refl
without-put k d (member l e ms) h = without-put_at k l d e ms (slice_cmp nat_cmp k l) refl h (without-put k d ms)

-- a member of another name is put
other_put : (q k : List ℕ) (d : Data) (ms : Members) (o : Option Data) → bytes_eq q k ≡ false → get_member q ms ≡ o → get_member q (put k d ms) ≡ o
other_put q k d ms o e h = get-put_at q k d ms false e ∙ h

pub same_put : (k : List ℕ) (d : Data) (ms : Members) → get_member k (put k d ms) ≡ Some d
same_put k d ms = get_member-put k d ms

record Absent (ms : Members) : Type 0 where
  pub version : get_member (codes "apiVersion") ms ≡ None
  pub kind : get_member (codes "kind") ms ≡ None
  pub metadata : get_member (codes "metadata") ms ≡ None

others-absent : (ms : Members) → Absent ms → others ms ≡ ms
unfolding others
others-absent ms a = rw (without-absent (codes "metadata") ms a.metadata, without-absent (codes "kind") ms a.kind, without-absent (codes "apiVersion") ms a.version) refl

others-put : (t : Option TypeMeta) (d : Data) (ms : Members) → Absent ms → others (put (codes "metadata") d (with_fields (type_fields t) ms)) ≡ ms
unfolding others
others-put None d ms a =
    rw (without-put (codes "metadata") d ms a.metadata, without-absent (codes "kind") ms a.kind, without-absent (codes "apiVersion") ms a.version) refl
others-put (Some t) d ms a =
    let first = put (codes "apiVersion") (string t.api_version) ms in
    let second = put (codes "kind") (string t.kind) first in
    let no_kind : get_member (codes "kind") first ≡ None = other_put (codes "kind") (codes "apiVersion") (string t.api_version) ms None refl a.kind in
    let no_metadata : get_member (codes "metadata") second ≡ None =
    other_put (codes "metadata") (codes "kind") (string t.kind) first None refl (other_put (codes "metadata") (codes "apiVersion") (string t.api_version) ms None refl a.metadata) in
    rw (without-put (codes "metadata") d second no_metadata, without-put (codes "kind") (string t.kind) first no_kind, without-put (codes "apiVersion") (string t.api_version) ms a.version) refl

types_back : (t : Option TypeMeta) (d : Data) (ms : Members) → Absent ms → types_at (object (put (codes "metadata") d (with_fields (type_fields t) ms))) ≡ Ok t
unfolding types_at has_types field
types_back None d ms a =
    let version : get_member (codes "apiVersion") (put (codes "metadata") d ms) ≡ None = other_put (codes "apiVersion") (codes "metadata") d ms None refl a.version in
    let kind : get_member (codes "kind") (put (codes "metadata") d ms) ≡ None = other_put (codes "kind") (codes "metadata") d ms None refl a.kind in
    rw (version, kind) refl
types_back (Some t) d ms a =
    let first = put (codes "apiVersion") (string t.api_version) ms in
    let second = put (codes "kind") (string t.kind) first in
    let version : get_member (codes "apiVersion") (put (codes "metadata") d second) ≡ Some (string t.api_version) =
    other_put (codes "apiVersion") (codes "metadata") d second _ refl (other_put (codes "apiVersion") (codes "kind") (string t.kind) first _ refl (same_put (codes "apiVersion") (string t.api_version) ms)) in
    let kind : get_member (codes "kind") (put (codes "metadata") d second) ≡ Some (string t.kind) =
    other_put (codes "kind") (codes "metadata") d second _ refl (same_put (codes "kind") (string t.kind) first) in
    rw (version, kind) refl

or_first : (a b : Bool) → (a || b) ≡ false → a ≡ false
or_first true b h = absurd (true≢false h)
or_first false b h = refl

or_second : (a b : Bool) → (a || b) ≡ false → b ≡ false
or_second true b h = absurd (true≢false h)
or_second false b h = h

mutual
  whole_back : (d : Data) → has_float d ≡ false → whole_numbers d ≡ Ok tt
  whole_back null h = refl
  whole_back (boolean b) h = refl
  whole_back (number (unsigned n)) h = refl
  whole_back (number (negative z)) h = refl
  whole_back (number (float x)) h = absurd (true≢false h)
  whole_back (string s) h = refl
  whole_back (array ds) h = whole_items_back 0 ds h
  whole_back (object ms) h = whole_members_back ms h

  whole_items_back : (i : ℕ) (ds : Items) → items_have_float ds ≡ false → whole_items i ds ≡ Ok tt
  whole_items_back i no_items h = refl
  whole_items_back i (item d ds) h = rw (whole_back d (or_first (has_float d) (items_have_float ds) h)) (whole_items_back (suc i) ds (or_second (has_float d) (items_have_float ds) h))

  whole_members_back : (ms : Members) → members_have_float ms ≡ false → whole_members ms ≡ Ok tt
  whole_members_back no_members h = refl
  whole_members_back (member k d ms) h = rw (whole_back d (or_first (has_float d) (members_have_float ms) h)) (whole_members_back ms (or_second (has_float d) (members_have_float ms) h))

-- ---- the whole

metadata_back : (inner ms : Members) (m : ObjectMeta) → get_member (codes "metadata") ms ≡ Some (object inner) → meta_at (object inner) ≡ Ok m → maybe_field (codes "metadata") meta_at (object ms) ≡ Ok (Some m)
unfolding maybe_field
metadata_back inner ms m e h = rw (e, h) refl

pub object_back : (o : ObjectData) → IsContent o.content → IfSome o.metadata.generation IsSmall → object_data_at (object_data o) ≡ Ok (as_read o)
unfolding object_data_at object_data object_at content_at meta_data
object_back o c h =
    let ms = c.members in
    let a : Absent ms = record { version = c.no_version; kind = c.no_kind; metadata = c.no_metadata } in
    let rest : others (content_members o.content) ≡ ms = rw c.is_object (others-absent ms a) in
    let written = put (codes "metadata") (meta_data o.metadata) (with_fields (type_fields o.types) ms) in
    let types : types_at (object written) ≡ Ok o.types = types_back o.types (meta_data o.metadata) ms a in
    let meta : maybe_field (codes "metadata") meta_at (object written) ≡ Ok (Some (without_empties o.metadata)) =
    metadata_back (with_fields (meta_fields o.metadata) no_members) written (without_empties o.metadata) (same_put (codes "metadata") (meta_data o.metadata) (with_fields (type_fields o.types) ms)) (meta_back o.metadata h) in
    let left : others written ≡ ms = others-put o.types (meta_data o.metadata) ms a in
    let whole : whole_members ms ≡ Ok tt = whole_members_back ms (subst (λ d. has_float d ≡ false) c.is_object c.whole) in
    rw (rest, types, meta, left, whole, c.is_object) refl

-- ---- another list of finalizers

-- a member is another one, and all others are as before
pub record IsReplaced (k : List ℕ) (d : Data) (before after : Members) : Type 0 where
  pub there : get_member k after ≡ Some d
  pub others : (q : List ℕ) → bytes_eq q k ≡ false → get_member q after ≡ get_member q before

read_names : (names : List (List ℕ)) (ms : Members) → get_member (codes "finalizers") ms ≡ Some (list_data string names)
    → full_field (codes "finalizers") (list_at text_at) (object ms) ≡ Ok (unless_empty (Some names))
unfolding full_field
read_names names ms e =
    ap (λ r. r >>= λ p. Ok (unless_empty p)) (read_member (codes "finalizers") (list_at text_at) (list_data string) (Some names) ms e (list_back text_at string (λ x. refl) names))

pub finalizers_back : (m : ObjectMeta) (names : List (List ℕ)) (after : Members) → IfSome m.generation IsSmall
    → IsReplaced (codes "finalizers") (list_data string names) (with_fields (meta_fields m) no_members) after → meta_at (object after) ≡ Ok (without_empties (record m { finalizers = Some names }))
unfolding meta_at object_at meta_fields
finalizers_back m names after h r =
    let name = read_text (codes "name") m.name after (r.others (codes "name") refl ∙ under_name (codes "name") m _ refl) in
    let namespace = read_text (codes "namespace") m.namespace after (r.others (codes "namespace") refl ∙ under_name (codes "namespace") m _ refl) in
    let uid = read_text (codes "uid") m.uid after (r.others (codes "uid") refl ∙ under_name (codes "uid") m _ refl) in
    let version = read_text (codes "resourceVersion") m.resource_version after (r.others (codes "resourceVersion") refl ∙ under_name (codes "resourceVersion") m _ refl) in
    let deleted = read_text (codes "deletionTimestamp") m.deletion_timestamp after (r.others (codes "deletionTimestamp") refl ∙ under_name (codes "deletionTimestamp") m _ refl) in
    let generation =
    read_member (codes "generation") whole_at (λ z. number (of_integer z)) m.generation after (r.others (codes "generation") refl ∙ under_name (codes "generation") m _ refl) (numbers_back m.generation h) in
    let labels = read_full (codes "labels") texts_at texts_data m.labels after (r.others (codes "labels") refl ∙ under_name (codes "labels") m _ refl) texts_back in
    let annotations = read_full (codes "annotations") texts_at texts_data m.annotations after (r.others (codes "annotations") refl ∙ under_name (codes "annotations") m _ refl) texts_back in
    let finalizers = read_names names after r.there in
    let owners =
    read_full (codes "ownerReferences") (list_at owner_at) (list_data owner_data) m.owner_references after (r.others (codes "ownerReferences") refl ∙ under_name (codes "ownerReferences") m _ refl)
    (list_back owner_at owner_data owner_back) in
    rw (name, namespace, uid, version, deleted, generation, labels, annotations, finalizers, owners) refl

-- an object is read of its document with other metadata
pub object_with : (o : ObjectData) (after : Members) (m : ObjectMeta) → IsContent o.content → meta_at (object after) ≡ Ok m
    → object_data_at (object (put (codes "metadata") (object after) (with_fields (type_fields o.types) (others (content_members o.content))))) ≡ Ok (record o { metadata = m })
unfolding object_data_at object_at content_at
object_with o after m c h =
    let ms = c.members in
    let a : Absent ms = record { version = c.no_version; kind = c.no_kind; metadata = c.no_metadata } in
    let rest : others (content_members o.content) ≡ ms = rw c.is_object (others-absent ms a) in
    let written = put (codes "metadata") (object after) (with_fields (type_fields o.types) ms) in
    let types : types_at (object written) ≡ Ok o.types = types_back o.types (object after) ms a in
    let meta : maybe_field (codes "metadata") meta_at (object written) ≡ Ok (Some m) =
    metadata_back after written m (same_put (codes "metadata") (object after) (with_fields (type_fields o.types) ms)) h in
    let left : others written ≡ ms = others-put o.types (object after) ms a in
    let whole : whole_members ms ≡ Ok tt = whole_members_back ms (subst (λ d. has_float d ≡ false) c.is_object c.whole) in
    rw (rest, types, meta, left, whole, c.is_object) refl
