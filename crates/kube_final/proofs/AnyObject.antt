-- What the patches of finalizers make of any object that can be written.
use Rattle.std.proofs.Common.{◌≡◌, ℕ, ◌^◌, ◌<◌, List, [], ◌∷◌, ◌++◌, Option, Some, None, Ok, IfSome, Bool, true, false, cond, bytes_eq, codes, decimal, refl, sym, ap, subst, ◌∙◌, true≢false}
use Rattle.std.specs.Prelude.{slice_get, remove, option_map, option_and_then, unwrap_or}
use Rattle.std.specs.Option.{option_eq}
use Rattle.std.proofs.lemmas.Slice.Eq.{bytes_eq-Decides}
use Rattle.serde_json.specs.Data.{Data, null, string, object, Members, no_members, put}
use Rattle.serde_json.specs.Find.{get, get_member, as_str, unescape}
use Rattle.kube_meta.specs.Reading.{ObjectData, object_data_at, others, unless_empty}
use Rattle.kube_meta.specs.Writing.{IsContent, IsSmall, as_read, content_members, list_data, meta_data, meta_fields, object_data, type_fields, with_fields, without_empties}
use Rattle.kube_meta.proofs.ReadBack.{IsReplaced, finalizers_back, object_with, same_put, under_name}
use Rattle.kube_api.specs.Patches.{Change, Operation, Tests, Changes, Puts, Takes, added, changed_at, changed_by, changed_part, found_at, found_by, has_same, is_object, is_read, passes, removed, stays, text_of}
use Rattle.kube_server.specs.Servers.{patch_change, patch_document, read_patched}
use Rattle.kube_final.specs.declared.finalizer.Decision.{Decision}
use Rattle.kube_final.specs.declared.finalizer.Decision.TheVariants.{Apply, Cleanup, AddFirst, AddMore, Nothing, Unnamed}
use Rattle.kube_final.specs.FinalizerPatches.{ChangesFinalizers, finalizers_changed, is_as_seen, with_finalizers}
use Rattle.kube_final.specs.Finalizers.{end_path, finalizers_in, item_path, list_path, names_data, patch_on}
use Rattle.kube_final.specs.Lives.{is_at, is_empty, patched_by, same_names}
use Rattle.kube_final.specs.Playing.{IsSendable}
use Rattle.kube_final.proofs.Documents.{decimal-index, found-rest, item-parts, list_of, map-push, name-there, pushed, taken}
use Rattle.kube_final.proofs.MemberChanges.{put-changed, put-replaces, there-changed}
use Rattle.kube_final.proofs.Patching.{found-name, name-test, null-test, seen-test, two-steps}

-- ---- finalizers as data

list-of-unless : (o : Option (List (List ℕ))) → option_map (list_data string) (unless_empty o) ≡ list_of (unwrap_or o [])
list-of-unless None = refl
list-of-unless (Some []) = refl
list-of-unless (Some (n ∷ ns)) = refl

added-end : (names : List (List ℕ)) (n : List ℕ) → added (string n) (codes "-") (names_data names) ≡ Some (names_data (names ++ n ∷ []))
added-end names n = rw (pushed names (string n), map-push names n) refl

removed-name : (names : List (List ℕ)) (i : ℕ) (n : List ℕ) → i < 2 ^ 64 → slice_get names i ≡ Some n → removed (decimal i) (names_data names) ≡ Some (names_data (remove names i))
removed-name names i n small there = rw (decimal-index i small, taken names i n there) refl

found-part : (names : List (List ℕ)) (i : ℕ) → i < 2 ^ 64 → option_and_then (found_by (decimal i ∷ [])) (list_of names) ≡ option_map string (slice_get names i)
found-part [] i small = refl
found-part (n ∷ ns) i small = rw (decimal-index i small) (found-rest _ ∙ name-there (n ∷ ns) i)

named-some : (names : List (List ℕ)) (i : ℕ) (n : List ℕ) → slice_get names i ≡ Some n → list_of names ≡ Some (names_data names)
named-some [] i n e = absurd (cc)
named-some (m ∷ ms) i n e = refl

seen-some : (s : List ℕ) (ss names : List (List ℕ)) → same_names (s ∷ ss) names ≡ true → list_of names ≡ Some (names_data names)
seen-some s ss [] h = absurd (true≢false (sym h))
seen-some s ss (n ∷ ns) h = refl

text-itself : (x : Option (List ℕ)) → option_eq bytes_eq x x ≡ true
text-itself None = refl
text-itself (Some text) = (bytes_eq-Decides text text).1 refl

chosen : {A : Type 0} (b : Bool) (x y : A) → b ≡ true → cond b x y ≡ x
chosen true x y h = refl
chosen false x y h = absurd (true≢false (sym h))

-- ---- a document, by the members of its metadata and the others

module _ (rest : Members) where
  abbrev pub document_of : Members → Data
  document_of inner = object (put (codes "metadata") (object inner) rest)

  list-there : (inner : Members) → found_at list_path (document_of inner) ≡ get_member (codes "finalizers") inner
  unfolding unescape
  list-there inner =
      ap (option_and_then (found_by (codes "finalizers" ∷ []))) (same_put (codes "metadata") (object inner) rest) ∙ found-rest (get_member (codes "finalizers") inner)

  item-there : (inner : Members) (names : List (List ℕ)) (i : ℕ) → i < 2 ^ 64 → get_member (codes "finalizers") inner ≡ list_of names
      → found_at (item_path i) (document_of inner) ≡ option_map string (slice_get names i)
  item-there inner names i small listed =
      ap (option_and_then (λ ps. found_by ps (document_of inner))) (item-parts i small)
      ∙ (ap (option_and_then (found_by (codes "finalizers" ∷ decimal i ∷ []))) (same_put (codes "metadata") (object inner) rest)
      ∙ (ap (option_and_then (found_by (decimal i ∷ []))) listed ∙ found-part names i small))

  -- the finalizers became these, and all else of the metadata is as before
  pub record IsMade (change : Change) (path : List ℕ) (inner : Members) (new : List (List ℕ)) : Type 0 where
    pub after : Members
    pub changed : changed_at change path (document_of inner) ≡ Some (document_of after)
    pub replaced : IsReplaced (codes "finalizers") (names_data new) inner after

  list-made : (inner : Members) (new : List (List ℕ)) → IsMade (Puts (names_data new)) list_path inner new
  unfolding unescape
  list-made inner new = record {
    after = put (codes "finalizers") (names_data new) inner;
    changed =
        ap (option_map object)
        (put-changed (changed_by (Puts (names_data new)) (codes "finalizers" ∷ [])) (codes "metadata") (object inner) (object (put (codes "finalizers") (names_data new) inner)) rest refl);
    replaced = put-replaces (codes "finalizers") (names_data new) inner;
  }

  -- a change within the list
  within-made : (f : Data → Option Data) (inner : Members) (names new : List (List ℕ)) → get_member (codes "finalizers") inner ≡ Some (names_data names) → f (names_data names) ≡ Some (names_data new)
      → (after : Members) × (changed_part (changed_part f (codes "finalizers")) (codes "metadata") (document_of inner) ≡ Some (document_of after)) × IsReplaced (codes "finalizers") (names_data new) inner after
  within-made f inner names new listed made =
      let c = there-changed f (codes "finalizers") (names_data names) (names_data new) inner listed made in (
        c.after,
        ap (option_map object) (put-changed (changed_part f (codes "finalizers")) (codes "metadata") (object inner) (object c.after) rest (ap (option_map object) c.changed)),
        c.replaced,
      )

  item-made : (inner : Members) (names : List (List ℕ)) (i : ℕ) (n : List ℕ) → i < 2 ^ 64 → slice_get names i ≡ Some n → get_member (codes "finalizers") inner ≡ list_of names
      → IsMade Takes (item_path i) inner (remove names i)
  item-made inner names i n small there listed =
      let made = within-made (removed (decimal i)) inner names (remove names i) (listed ∙ named-some names i n there) (removed-name names i n small there) in
      record {
        after = made.0;
        changed = ap (option_and_then (λ ps. changed_by Takes ps (document_of inner))) (item-parts i small) ∙ made.1;
        replaced = made.2;
      }

  end-made : (inner : Members) (names : List (List ℕ)) (n : List ℕ) → list_of names ≡ Some (names_data names) → get_member (codes "finalizers") inner ≡ list_of names
      → IsMade (Puts (string n)) end_path inner (names ++ n ∷ [])
  unfolding unescape
  end-made inner names n some listed =
      let made = within-made (added (string n) (codes "-")) inner names (names ++ n ∷ []) (listed ∙ some) (added-end names n) in
      record { after = made.0; changed = made.1; replaced = made.2 }

  -- it stays that object
  text-there : (k : List ℕ) (inner : Members) → text_of k (document_of inner) ≡ option_and_then as_str (get_member k inner)
  text-there k inner = ap (λ d. option_and_then as_str (option_and_then (get k) d)) (same_put (codes "metadata") (object inner) rest)

  same-there : (k : List ℕ) (d : Data) (inner after : Members) → IsReplaced (codes "finalizers") d inner after → bytes_eq k (codes "finalizers") ≡ false → has_same k (document_of inner) (document_of after) ≡ true
  same-there k d inner after r other =
      let same : text_of k (document_of after) ≡ text_of k (document_of inner) = text-there k after ∙ (ap (option_and_then as_str) (r.others k other) ∙ sym (text-there k inner)) in
      ap (option_eq bytes_eq (text_of k (document_of inner))) same ∙ text-itself (text_of k (document_of inner))

  stays-there : (d : Data) (inner after : Members) (o : ObjectData) → IsReplaced (codes "finalizers") d inner after → object_data_at (document_of after) ≡ Ok o → stays (document_of inner) (document_of after) ≡ true
  stays-there d inner after o r read =
      let whole : is_object (document_of after) ≡ true = ap is_read read in
      rw (whole, same-there (codes "name") d inner after r refl, same-there (codes "namespace") d inner after r refl, same-there (codes "uid") d inner after r refl) refl

-- ---- any object

module _ (o : ObjectData) (content : IsContent o.content) (whole : IfSome o.metadata.generation IsSmall) where
  abbrev fields : Members
  fields = with_fields (meta_fields o.metadata) no_members

  abbrev besides : Members
  besides = with_fields (type_fields o.types) (others (content_members o.content))

  abbrev names : List (List ℕ)
  names = finalizers_in o.metadata

  listed : get_member (codes "finalizers") fields ≡ list_of names
  unfolding meta_fields
  listed = under_name (codes "finalizers") o.metadata (option_map (list_data string) (unless_empty o.metadata.finalizers)) refl ∙ list-of-unless o.metadata.finalizers

  read-with : (new : List (List ℕ)) (after : Members) → IsReplaced (codes "finalizers") (names_data new) fields after → object_data_at (document_of besides after) ≡ Ok (as_read (with_finalizers new o))
  read-with new after r = object_with o after (without_empties (record o.metadata { finalizers = Some new })) content (finalizers_back o.metadata new after whole r)

  -- a test and a change of the finalizers
  tested : (b : Bool) (p q : List ℕ) (v : Data) (change : Change) (new : List (List ℕ)) → passes v (found_at p (document_of besides fields)) ≡ b → (b ≡ true → IsMade besides change q fields new)
      → ChangesFinalizers o (Tests p v ∷ Changes q change ∷ []) b new
  unfolding object_data meta_data
  tested true p q v change new test makes =
      let made = makes refl in
      let read = read-with new made.after made.replaced in (
        document_of besides made.after,
        two-steps true p q v change (document_of besides fields) (document_of besides made.after) test (λ h. made.changed)
            (λ h. stays-there besides (names_data new) fields made.after (as_read (with_finalizers new o)) made.replaced read),
        read,
      )
  tested false p q v change new test makes =
      two-steps false p q v change (document_of besides fields) (document_of besides fields) test (λ h. absurd (true≢false (sym h))) (λ h. absurd (true≢false (sym h)))

  made-where : (b : Bool) (change : Change) (q : List ℕ) (new other : List (List ℕ)) → (b ≡ true → IsMade besides change q fields new) → b ≡ true → IsMade besides change q fields (cond b new other)
  made-where b change q new other makes h = subst (λ x. IsMade besides change q fields x) (sym (chosen b new other h)) (makes h)

  pub changes-finalizers : (name : List ℕ) (decision : Decision) (seen : List (List ℕ)) → IsSendable decision seen
      → ChangesFinalizers o (patch_on name seen decision) (is_as_seen name decision seen names) (patched_by name decision seen names)
  changes-finalizers name (Cleanup i) seen small =
      let b = is_at name (slice_get names i) in
      tested b (item_path i) (item_path i) (string name) Takes (cond b (remove names i) names)
      (ap (passes (string name)) (item-there besides fields names i small listed) ∙ name-test name (slice_get names i))
      (made-where b Takes (item_path i) (remove names i) names (λ h. let there = found-name name (slice_get names i) h in item-made besides fields names i there.0 small there.1 listed))
  changes-finalizers name AddFirst seen h =
      let b = is_empty names in
      tested b list_path list_path null (Puts (names_data (name ∷ []))) (cond b (name ∷ []) names)
      (ap (passes null) (list-there besides fields ∙ listed) ∙ null-test names)
      (made-where b (Puts (names_data (name ∷ []))) list_path (name ∷ []) names (λ h. list-made besides fields (name ∷ [])))
  changes-finalizers name AddMore [] h = absurd h
  changes-finalizers name AddMore (s ∷ ss) h =
      let b = same_names (s ∷ ss) names in
      tested b list_path end_path (names_data (s ∷ ss)) (Puts (string name)) (cond b (names ++ name ∷ []) names)
      (ap (passes (names_data (s ∷ ss))) (list-there besides fields ∙ listed) ∙ seen-test s ss names)
      (made-where b (Puts (string name)) end_path (names ++ name ∷ []) names (λ h. end-made besides fields names name (seen-some s ss names h) listed))
  changes-finalizers name Apply seen h = absurd h
  changes-finalizers name Nothing seen h = absurd h
  changes-finalizers name Unnamed seen h = absurd h

-- ---- on a server

served : (r : ℕ) (o : ObjectData) (os : List Operation) (b : Bool) (new : List (List ℕ)) → ChangesFinalizers o os b new → patch_change r os o ≡ finalizers_changed r o b new
served r o os true new c = ap (patch_document r) c.1 ∙ ap (read_patched r) c.2
served r o os false new c = ap (patch_document r) c

pub server-changes : (r : ℕ) (o : ObjectData) → IsContent o.content → IfSome o.metadata.generation IsSmall → (name : List ℕ) (decision : Decision) (seen : List (List ℕ)) → IsSendable decision seen
    → patch_change r (patch_on name seen decision) o
    ≡ finalizers_changed r o (is_as_seen name decision seen (finalizers_in o.metadata)) (patched_by name decision seen (finalizers_in o.metadata))
server-changes r o content whole name decision seen sendable =
    served r o (patch_on name seen decision) (is_as_seen name decision seen (finalizers_in o.metadata)) (patched_by name decision seen (finalizers_in o.metadata))
    (changes-finalizers o content whole name decision seen sendable)
