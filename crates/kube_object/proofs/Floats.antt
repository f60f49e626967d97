-- Objects that were read have whole numbers alone.
use Rattle.std.proofs.Common.{◌≡◌, ℕ, suc, List, Bool, true, false, ◌||◌, Result, Ok, Err, codes, decimal, true≢false, refl, sym, ap, subst}
use Rattle.serde_json.specs.Data.{unsigned, negative, float, Data, null, boolean, number, string, array, object, Items, no_items, item, Members, no_members, member}
use Rattle.serde_json.specs.Find.{as_object}
use Rattle.serde_json.specs.Written.{has_float, items_have_float, members_have_float}
use Rattle.kube_meta.specs.declared.object_fault.ObjectFault.{ObjectFault}
use Rattle.kube_meta.specs.Places.{◌>>=◌, escaped, beneath}
use Rattle.kube_meta.specs.Reading.{ObjectData, found, others, whole_numbers, whole_items, whole_members, content_at, object_data_at, object_at, types_at, maybe_field, meta_at}

-- ---- two parts

first : (a b : Bool) → (a || b) ≡ false → a ≡ false
first true b h = absurd (true≢false h)
first false b h = refl

second : (a b : Bool) → (a || b) ≡ false → b ≡ false
second true b h = absurd (true≢false h)
second false b h = h

both : (a b : Bool) → a ≡ false → b ≡ false → (a || b) ≡ false
both a b h k = rw (h, k) refl

-- ---- what was read

is_there : {A : Type 0} → Result A ObjectFault → Bool
is_there (Ok x) = true
is_there (Err e) = false

-- what is read in a second step was read in the first
read_first : {A B : Type 0} (r : Result A ObjectFault) (f : A → Result B ObjectFault) (y : B) → (r >>= f) ≡ Ok y → (x : A) × (r ≡ Ok x) × (f x ≡ Ok y)
unfolding is_there
read_first (Ok x) f y h = (x, refl, h)
read_first (Err e) f y h = absurd (true≢false (sym (ap is_there h)))

below : (p : List ℕ) (r next : Result (Unit {0}) ObjectFault) → (beneath p r >>= λ _. next) ≡ Ok tt → (r ≡ Ok tt) × (next ≡ Ok tt)
unfolding is_there
below p (Ok x) next h = (refl, h)
below p (Err e) next h = absurd (true≢false (sym (ap is_there h)))

mutual
  unfolding is_there

  whole_data : (d : Data) → whole_numbers d ≡ Ok tt → has_float d ≡ false
  whole_data null h = refl
  whole_data (boolean b) h = refl
  whole_data (number (unsigned n)) h = refl
  whole_data (number (negative z)) h = refl
  whole_data (number (float x)) h = absurd (true≢false (sym (ap is_there h)))
  whole_data (string s) h = refl
  whole_data (array ds) h = whole_in_items 0 ds h
  whole_data (object ms) h = whole_in_members ms h

  whole_in_items : (i : ℕ) (ds : Items) → whole_items i ds ≡ Ok tt → items_have_float ds ≡ false
  whole_in_items i no_items h = refl
  whole_in_items i (item d ds) h =
      let parts = below (decimal i) (whole_numbers d) (whole_items (suc i) ds) h in
      both (has_float d) (items_have_float ds) (whole_data d parts.0) (whole_in_items (suc i) ds parts.1)

  whole_in_members : (ms : Members) → whole_members ms ≡ Ok tt → members_have_float ms ≡ false
  whole_in_members no_members h = refl
  whole_in_members (member k d ms) h =
      let parts = below (escaped k) (whole_numbers d) (whole_members ms) h in
      both (has_float d) (members_have_float ms) (whole_data d parts.0) (whole_in_members ms parts.1)

data_or_null : Result Data ObjectFault → Data
data_or_null (Ok d) = d
data_or_null (Err e) = null

content_whole : (d c : Data) → content_at d ≡ Ok c → has_float c ≡ false
unfolding content_at data_or_null
content_whole d c h =
    let all = read_first (found (as_object d)) (λ ms. whole_members (others ms) >>= λ _. Ok (object (others ms))) c h in
    let left = read_first (whole_members (others all.0)) (λ _. Ok (object (others all.0))) c all.2 in
    subst (λ x. has_float x ≡ false) (ap data_or_null left.2) (whole_in_members (others all.0) left.1)

object_or : Data → Result ObjectData ObjectFault → Data
object_or d (Ok o) = o.content
object_or d (Err e) = d

-- an object that was read has whole numbers alone
pub read_whole : (d : Data) (o : ObjectData) → object_data_at d ≡ Ok o → has_float o.content ≡ false
unfolding object_data_at object_or
read_whole d o h =
    let first = read_first (object_at d) _ o h in
    let types = read_first (types_at d) _ o first.2 in
    let metadata = read_first (maybe_field (codes "metadata") meta_at d) _ o types.2 in
    let content = read_first (content_at d) _ o metadata.2 in
    subst (λ x. has_float x ≡ false) (ap (object_or null) content.2) (content_whole d content.0 content.1)
