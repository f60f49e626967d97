-- The JSON document of a lease's object, and what the patches of candidates make of it.
use Rattle.std.proofs.Common.{◌≡◌, ℕ, ◌+◌, ◌^◌, ◌<◌, ◌==◌, ◌&&◌, ◌||◌, List, [], ◌∷◌, Some, Ok, Err, Result, Bool, true, false, not, cond, bytes_eq, codes, decimal, refl, sym, ap, ◌∙◌, true≢false}
use Rattle.std.proofs.lemmas.Bool.{eqb-true, eq-eqb}
use Rattle.std.proofs.lemmas.Fmt.{decimal_injective}
use Rattle.std.proofs.lemmas.Slice.Eq.{bytes_eq-Decides}
use Rattle.serde_json.specs.Data.{Data, string, object, no_members, member}
use Rattle.serde_json.specs.Find.{unescape}
use Rattle.kube_meta.specs.Reading.{content_at, full_field, has_types, maybe_field, meta_at, object_at, object_data_at, others, texts_at, types_at}
use Rattle.kube_meta.specs.Writing.{meta_data, meta_fields, object_data}
use Rattle.kube_api.specs.declared.patch.PatchRefusal.{PatchRefusal}
use Rattle.kube_api.specs.declared.patch.PatchRefusal.TheVariants.{TestFailed}
use Rattle.kube_api.specs.Patches.{Change, Tests, Changes, Puts, changed_at, found_at, has_same, is_object, is_read, passes, patched, stays}
use Rattle.kube_server.specs.History.{Modifies}
use Rattle.kube_server.specs.Servers.{patch_change, patch_document, read_patched}
use Rattle.kube_final.proofs.EqualTexts.{alike, text-test}
use Rattle.kube_lease.specs.Elections.{Sent, passes as passes_on}
use Rattle.kube_lease.specs.Leases.{Lease}
use Rattle.kube_lease.specs.Played.{lease_name, operations_by, operations_of, plain_lease}
use Rattle.kube_lease.specs.Polls.{holder_path, renewal, taking, term_path, until_path, whole}
use Rattle.kube_lease.specs.Reading.{lease_at, lease_data}
use Rattle.kube_lease.specs.Staging.{IsFormedBy, IsRegularSent, IsSmall}
use Rattle.kube_lease.proofs.ElectionLaws.{and_parts}

abbrev pub spec_of : Lease → Data
spec_of l = object (member (codes "holder") (string l.holder) (member (codes "term") (whole l.term) (member (codes "until") (whole l.until) no_members)))

abbrev pub document : List ℕ → List ℕ → Lease → Data
document uid version l =
    object (member (codes "metadata")
    (object (member (codes "name") (string lease_name) (member (codes "resourceVersion") (string version) (member (codes "uid") (string uid) no_members))))
    (member (codes "spec") (spec_of l) no_members))

pub written : (uid version : List ℕ) (l : Lease) → object_data (plain_lease uid version l) ≡ document uid version l
unfolding object_data meta_data meta_fields others
written uid version l = refl

pub read_back : (uid version : List ℕ) (l : Lease) → object_data_at (document uid version l) ≡ Ok (plain_lease uid version l)
unfolding object_data_at object_at types_at has_types maybe_field full_field meta_at texts_at content_at others
read_back uid version l = refl

-- the lease that its content is
pub lease_back : (l : Lease) → lease_at (lease_data l) ≡ Ok l
lease_back l = refl

-- ---- what stands there

term_found : (uid version : List ℕ) (l : Lease) → found_at term_path (document uid version l) ≡ Some (whole l.term)
unfolding unescape
term_found uid version l = refl

holder_found : (uid version : List ℕ) (l : Lease) → found_at holder_path (document uid version l) ≡ Some (string l.holder)
unfolding unescape
holder_found uid version l = refl

until_found : (uid version : List ℕ) (l : Lease) → found_at until_path (document uid version l) ≡ Some (whole l.until)
unfolding unescape
until_found uid version l = refl

-- ---- what changes make of it

term_put : (uid version : List ℕ) (l : Lease) (n : ℕ) → changed_at (Puts (whole n)) term_path (document uid version l) ≡ Some (document uid version (record l { term = n }))
unfolding unescape
term_put uid version l n = refl

holder_put : (uid version : List ℕ) (l : Lease) (id : List ℕ) → changed_at (Puts (string id)) holder_path (document uid version l) ≡ Some (document uid version (record l { holder = id }))
unfolding unescape
holder_put uid version l id = refl

until_put : (uid version : List ℕ) (l : Lease) (n : ℕ) → changed_at (Puts (whole n)) until_path (document uid version l) ≡ Some (document uid version (record l { until = n }))
unfolding unescape
until_put uid version l n = refl

-- ---- it stays that object

same_name : (uid version : List ℕ) (l m : Lease) → has_same (codes "name") (document uid version l) (document uid version m) ≡ true
same_name uid version l m = refl

same_space : (uid version : List ℕ) (l m : Lease) → has_same (codes "namespace") (document uid version l) (document uid version m) ≡ true
same_space uid version l m = refl

same_uid : (uid version : List ℕ) (l m : Lease) → has_same (codes "uid") (document uid version l) (document uid version m) ≡ true
same_uid uid version l m = (bytes_eq-Decides uid uid).1 refl

document_stays : (uid version : List ℕ) (l m : Lease) → stays (document uid version l) (document uid version m) ≡ true
document_stays uid version l m =
    let read : is_object (document uid version m) ≡ true = ap is_read (read_back uid version m) in
    rw (read, same_name uid version l m, same_space uid version l m, same_uid uid version l m) refl

-- ---- tests

-- the texts of two numbers
number_test : (a b : ℕ) → a < 2 ^ 64 → b < 2 ^ 64 → passes (whole a) (Some (whole b)) ≡ (a == b)
number_test a b p q =
    let decides = bytes_eq-Decides (decimal b) (decimal a) in
    alike (bytes_eq (decimal b) (decimal a)) (a == b)
    (λ h. eq-eqb a b (decimal_injective a b p q (sym (decides.0 h))))
    (λ h. decides.1 (ap decimal (sym (eqb-true a b h))))

turned : (a b : List ℕ) → bytes_eq a b ≡ bytes_eq b a
turned a b =
    alike (bytes_eq a b) (bytes_eq b a)
    (λ h. (bytes_eq-Decides b a).1 (sym ((bytes_eq-Decides a b).0 h)))
    (λ h. (bytes_eq-Decides a b).1 (sym ((bytes_eq-Decides b a).0 h)))

holder_test : (a b : List ℕ) → passes (string a) (Some (string b)) ≡ bytes_eq a b
holder_test a b = text-test b a ∙ turned b a

-- ---- tests and changes

abbrev fine : Data → Result Data PatchRefusal
fine d = Ok d

abbrev fails : ℕ → Result Data PatchRefusal
fails i = Err (TestFailed i)

three_tests : (a b c : Bool) (p q r w : List ℕ) (x y z : Data) (change : Change) (before after : Data)
    → passes x (found_at p before) ≡ a → passes y (found_at q before) ≡ b → passes z (found_at r before) ≡ c → changed_at change w before ≡ Some after → stays before after ≡ true
    → patched (Tests p x ∷ Tests q y ∷ Tests r z ∷ Changes w change ∷ []) before ≡ cond a (cond b (cond c (fine after) (fails 2)) (fails 1)) (fails 0)
three_tests true true true p q r w x y z change before after f g h k s = rw (f, g, h, k, s) refl
three_tests true true false p q r w x y z change before after f g h k s = rw (f, g, h) refl
three_tests true false c p q r w x y z change before after f g h k s = rw (f, g) refl
three_tests false b c p q r w x y z change before after f g h k s = rw f refl

two_tests : (a b : Bool) (p q u v w : List ℕ) (x y : Data) (first second third : Change) (before one two after : Data)
    → passes x (found_at p before) ≡ a → passes y (found_at q before) ≡ b → changed_at first u before ≡ Some one → changed_at second v one ≡ Some two → changed_at third w two ≡ Some after
    → stays before after ≡ true
    → patched (Tests p x ∷ Tests q y ∷ Changes u first ∷ Changes v second ∷ Changes w third ∷ []) before ≡ cond a (cond b (fine after) (fails 1)) (fails 0)
two_tests true true p q u v w x y first second third before one two after f g h k l s = rw (f, g, h, k, l, s) refl
two_tests true false p q u v w x y first second third before one two after f g h k l s = rw (f, g) refl
two_tests false b p q u v w x y first second third before one two after f g h k l s = rw f refl

-- ---- the patches of candidates

module _ (uid version : List ℕ) (l : Lease) (small : IsSmall l) where
  term_test : (m : Lease) → IsSmall m → passes (whole m.term) (found_at term_path (document uid version l)) ≡ (m.term == l.term)
  term_test m k = ap (passes (whole m.term)) (term_found uid version l) ∙ number_test m.term l.term k.0 small.0

  until_test : (m : Lease) → IsSmall m → passes (whole m.until) (found_at until_path (document uid version l)) ≡ (m.until == l.until)
  until_test m k = ap (passes (whole m.until)) (until_found uid version l) ∙ number_test m.until l.until k.1 small.1

  owner_test : (m : Lease) → passes (string m.holder) (found_at holder_path (document uid version l)) ≡ bytes_eq m.holder l.holder
  owner_test m = ap (passes (string m.holder)) (holder_found uid version l) ∙ holder_test m.holder l.holder

  -- a renewal
  pub renewal_comes : (seen : Lease) (until : ℕ) → IsSmall seen
      → patched (renewal seen until) (document uid version l)
      ≡ cond (seen.term == l.term) (cond (bytes_eq seen.holder l.holder) (cond (seen.until == l.until) (fine (document uid version (record l { until = until }))) (fails 2)) (fails 1)) (fails 0)
  renewal_comes seen until k =
      three_tests (seen.term == l.term) (bytes_eq seen.holder l.holder) (seen.until == l.until) term_path holder_path until_path until_path
      (whole seen.term) (string seen.holder) (whole seen.until) (Puts (whole until)) (document uid version l) (document uid version (record l { until = until }))
      (term_test seen k) (owner_test seen) (until_test seen k) (until_put uid version l until) (document_stays uid version l (record l { until = until }))

  -- a taking
  pub taking_comes : (id : List ℕ) (seen : Lease) (until : ℕ) → IsSmall seen
      → patched (taking id seen until) (document uid version l)
      ≡ cond (seen.term == l.term) (cond (seen.until == l.until) (fine (document uid version (record { holder = id; term = seen.term + 1; until = until }))) (fails 1)) (fails 0)
  taking_comes id seen until k =
      two_tests (seen.term == l.term) (seen.until == l.until) term_path until_path term_path holder_path until_path
      (whole seen.term) (whole seen.until) (Puts (whole (seen.term + 1))) (Puts (string id)) (Puts (whole until))
      (document uid version l) (document uid version (record l { term = seen.term + 1 })) (document uid version (record l { term = seen.term + 1; holder = id }))
      (document uid version (record { holder = id; term = seen.term + 1; until = until }))
      (term_test seen k) (until_test seen k) (term_put uid version l (seen.term + 1)) (holder_put uid version (record l { term = seen.term + 1 }) id)
      (until_put uid version (record l { term = seen.term + 1; holder = id }) until)
      (document_stays uid version l (record { holder = id; term = seen.term + 1; until = until }))

  -- ---- a patch that was sent

  abbrev passes_by : Bool → Sent → Bool
  passes_by b s = (s.seen.term == l.term && s.seen.until == l.until) && (not b || bytes_eq s.seen.holder l.holder)

  -- its tests pass, and it makes what was sent
  comes_by : (b : Bool) (s : Sent) → IsSmall s.seen → IsFormedBy b s → passes_by b s ≡ true → patched (operations_by b s) (document uid version l) ≡ fine (document uid version s.makes)
  comes_by true s k formed h =
      let parts = and_parts (s.seen.term == l.term && s.seen.until == l.until) (bytes_eq s.seen.holder l.holder) h in
      let numbers = and_parts (s.seen.term == l.term) (s.seen.until == l.until) parts.0 in
      let term : l.term ≡ s.makes.term = sym (eqb-true s.seen.term l.term numbers.0) ∙ sym formed.1 in
      let holder : l.holder ≡ s.makes.holder = sym ((bytes_eq-Decides s.seen.holder l.holder).0 parts.1) ∙ sym formed.0 in
      let makes : record l { until = s.makes.until } ≡ s.makes = λ i. record { holder = holder i; term = term i; until = s.makes.until } in
      let passed : cond (s.seen.term == l.term) (cond (bytes_eq s.seen.holder l.holder) (cond (s.seen.until == l.until) (fine (document uid version (record l { until = s.makes.until }))) (fails 2)) (fails 1)) (fails 0)
      ≡ fine (document uid version (record l { until = s.makes.until })) = rw (numbers.0, parts.1, numbers.1) refl in
      renewal_comes s.seen s.makes.until k ∙ passed ∙ ap (λ m. fine (document uid version m)) makes
  comes_by false s k formed h =
      let parts = and_parts (s.seen.term == l.term && s.seen.until == l.until) true h in
      let numbers = and_parts (s.seen.term == l.term) (s.seen.until == l.until) parts.0 in
      let term : s.seen.term + 1 ≡ s.makes.term = sym formed in
      let taken : Lease = record { holder = s.makes.holder; term = s.seen.term + 1; until = s.makes.until } in
      let makes : taken ≡ s.makes = λ i. record { holder = s.makes.holder; term = term i; until = s.makes.until } in
      let passed : cond (s.seen.term == l.term) (cond (s.seen.until == l.until) (fine (document uid version taken)) (fails 1)) (fails 0) ≡ fine (document uid version taken) = rw (numbers.0, numbers.1) refl in
      taking_comes s.makes.holder s.seen s.makes.until k ∙ passed ∙ ap (λ m. fine (document uid version m)) makes

  pub sent_comes : (s : Sent) → IsRegularSent s → passes_on s l ≡ true → patched (operations_of s) (document uid version l) ≡ fine (document uid version s.makes)
  sent_comes s k h = comes_by s.renews s k.0 k.2 h

  renewal_fails : (t u h : Bool) (x : Result Data PatchRefusal) → ((t && u) && h) ≡ false → (i : ℕ) × (cond t (cond h (cond u x (fails 2)) (fails 1)) (fails 0) ≡ fails i)
  renewal_fails false u h x e = (0, refl)
  renewal_fails true u false x e = (1, refl)
  renewal_fails true false true x e = (2, refl)
  renewal_fails true true true x e = absurd (true≢false e)

  taking_fails : (t u : Bool) (x : Result Data PatchRefusal) → ((t && u) && true) ≡ false → (i : ℕ) × (cond t (cond u x (fails 1)) (fails 0) ≡ fails i)
  taking_fails false u x e = (0, refl)
  taking_fails true false x e = (1, refl)
  taking_fails true true x e = absurd (true≢false e)

  -- a test of it fails
  fails_by : (b : Bool) (s : Sent) → IsSmall s.seen → passes_by b s ≡ false → (i : ℕ) × (patched (operations_by b s) (document uid version l) ≡ fails i)
  fails_by true s k h =
      let w = renewal_fails (s.seen.term == l.term) (s.seen.until == l.until) (bytes_eq s.seen.holder l.holder) (fine (document uid version (record l { until = s.makes.until }))) h in
      (w.0, renewal_comes s.seen s.makes.until k ∙ w.1)
  fails_by false s k h =
      let w = taking_fails (s.seen.term == l.term) (s.seen.until == l.until) (fine (document uid version (record { holder = s.makes.holder; term = s.seen.term + 1; until = s.makes.until }))) h in
      (w.0, taking_comes s.makes.holder s.seen s.makes.until k ∙ w.1)

  pub sent_fails : (s : Sent) → IsRegularSent s → passes_on s l ≡ false → (i : ℕ) × (patched (operations_of s) (document uid version l) ≡ fails i)
  sent_fails s k h = fails_by s.renews s k.0 h

  -- ---- what a server makes of it

  -- a revision's change of the object
  pub change_done : (revision : ℕ) (s : Sent) → IsRegularSent s → passes_on s l ≡ true → patch_change revision (operations_of s) (plain_lease uid version l) ≡ Ok (Modifies (plain_lease uid (decimal revision) s.makes))
  change_done revision s k h =
      ap (λ d. patch_document revision (patched (operations_of s) d)) (written uid version l) ∙ ap (patch_document revision) (sent_comes s k h) ∙ ap (read_patched revision) (read_back uid version s.makes)

  pub change_refused : (revision : ℕ) (s : Sent) → IsRegularSent s → passes_on s l ≡ false → (i : ℕ) × (patch_change revision (operations_of s) (plain_lease uid version l) ≡ Err (TestFailed i))
  change_refused revision s k h =
      let w = sent_fails s k h in
      (w.0, ap (λ d. patch_document revision (patched (operations_of s) d)) (written uid version l) ∙ ap (patch_document revision) w.1)
