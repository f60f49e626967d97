-- Fields that are put where their names belong, and fields that are shown in the order of their names.
use Rattle.std.proofs.Common.{◌≡◌, ℕ, Bool, true, false, ◌||◌, ◌&&◌, List, [], ◌∷◌, Option, Some, None, option_map, codes, cond, true≢false, refl, sym, ap, ◌∙◌}
use Rattle.std.specs.Str.{bytes_eq}
use Rattle.std.specs.Ordering.{nat_cmp, match_ordering, ordering_reverse, is_lt, is_eq, is_gt}
use Rattle.std.specs.declared.cmp.Ordering.{Ordering}
use Rattle.std.specs.declared.cmp.Ordering.TheVariants.{Less, Equal, Greater}
use Rattle.std.specs.Cmp.Lexicographic.{slice_cmp, nat_list_cmp_total}
use Rattle.std.proofs.lemmas.Map.Text.{is_eq-slice_cmp}
use Rattle.serde_json.specs.Data.{Data, object, string, Members, no_members, member, put}
use Rattle.kube_meta.specs.declared.metadata.ObjectMeta.{ObjectMeta}
use Rattle.kube_meta.specs.Writing.{put_if, with_fields, meta_data, meta_fields, type_fields, content_members, object_data}
use Rattle.kube_meta.specs.Reading.{ObjectData, others}
use Rattle.kube_meta.specs.declared.metadata.TypeMeta.{TypeMeta}
use Rattle.kube_text.specs.declared.object.Next.TheVariants as nexts
use Rattle.kube_text.specs.Fields.{Field, fields, comes_before, all_after, IsPast, Begins, is_named_one, left, meta_members, sorted_fields}
use Rattle.kube_text.specs.Shown.{member_if}

-- ---- orderings

both : (a b : Bool) → (a && b) ≡ true → (a ≡ true) × (b ≡ true)
both true b h = (refl, h)
both false b h = absurd (true≢false (sym h))

pub and : (a b : Bool) → a ≡ true → b ≡ true → (a && b) ≡ true
and a b h k = rw (h, k) refl

at_less : {A : Type 0} (o : Ordering) (a b c : A) → is_lt o ≡ true → match_ordering o a b c ≡ a
at_less Less a b c h = refl
at_less Equal a b c h = absurd (true≢false (sym h))
at_less Greater a b c h = absurd (true≢false (sym h))

at_greater : {A : Type 0} (o : Ordering) (a b c : A) → is_gt o ≡ true → match_ordering o a b c ≡ c
at_greater Less a b c h = absurd (true≢false (sym h))
at_greater Equal a b c h = absurd (true≢false (sym h))
at_greater Greater a b c h = refl

greater_else : (o : Ordering) → is_lt o ≡ false → is_eq o ≡ false → is_gt o ≡ true
greater_else Less h k = absurd (true≢false h)
greater_else Equal h k = absurd (true≢false k)
greater_else Greater h k = refl

is_less : (o : Ordering) → is_gt o ≡ true → ordering_reverse o ≡ Less
is_less Less h = absurd (true≢false (sym h))
is_less Equal h = absurd (true≢false (sym h))
is_less Greater h = refl

-- what comes after a text comes after each text before that one
after_both : (n k m : List ℕ) → is_gt (slice_cmp nat_cmp k n) ≡ true → is_gt (slice_cmp nat_cmp m k) ≡ true → is_gt (slice_cmp nat_cmp m n) ≡ true
after_both n k m h g =
    let nk : slice_cmp nat_cmp n k ≡ Less = nat_list_cmp_total.antisymm n k ∙ is_less (slice_cmp nat_cmp k n) h in
    let km : slice_cmp nat_cmp k m ≡ Less = nat_list_cmp_total.antisymm k m ∙ is_less (slice_cmp nat_cmp m k) g in
    ap is_gt (nat_list_cmp_total.antisymm m n ∙ ap ordering_reverse (nat_list_cmp_total.trans n k m nk km))

all_later : (n k : List ℕ) (fs : List Field) → is_gt (slice_cmp nat_cmp k n) ≡ true → all_after k fs ≡ true → all_after n fs ≡ true
all_later n k [] h g = refl
all_later n k (f ∷ fs) h g =
    let parts = both (is_gt (slice_cmp nat_cmp f.0 k)) (all_after k fs) g in
    and (is_gt (slice_cmp nat_cmp f.0 n)) (all_after n fs) (after_both n k f.0 h parts.0) (all_later n k fs h parts.1)

-- ---- fields that are put

-- fields whose names come after a member's leave it in front
pub past : (n : List ℕ) (e : Data) (fs : List Field) (ms : Members) → all_after n fs ≡ true → with_fields fs (member n e ms) ≡ member n e (with_fields fs ms)
past n e [] ms h = refl
past n e (f ∷ fs) ms h =
    let parts = both (is_gt (slice_cmp nat_cmp f.0 n)) (all_after n fs) h in
    ap (with_fields fs) (one f.1 parts.0) ∙ past n e fs (put_if f.0 f.1 ms) parts.1
  where
    one : (o : Option Data) → is_gt (slice_cmp nat_cmp f.0 n) ≡ true → put_if f.0 o (member n e ms) ≡ member n e (put_if f.0 o ms)
    one None g = refl
    one (Some d) g = at_greater (slice_cmp nat_cmp f.0 n) _ _ _ g

-- a field that is due goes in front
pub front : (k : List ℕ) (o : Option Data) (fs : List Field) (name : Option (List ℕ)) (rest : Members) → Begins name rest → comes_before k name ≡ true → all_after k fs ≡ true
    → with_fields ((k, o) ∷ fs) rest ≡ member_if k o (with_fields fs rest)
front k None fs name rest b h g = refl
front k (Some e) fs None no_members b h g = past k e fs no_members g
front k (Some e) fs None (member l d ms) b h g = absurd b
front k (Some e) fs (Some n) no_members b h g = absurd b
front k (Some e) fs (Some n) (member l d ms) b h g =
    let due : is_lt (slice_cmp nat_cmp k l) ≡ true = ap (λ x. is_lt (slice_cmp nat_cmp k x)) b ∙ h in
    ap (with_fields fs) (at_less (slice_cmp nat_cmp k l) _ _ _ due) ∙ past k e fs (member l d ms) g

abbrev pub IsOther : List ℕ → Option (List ℕ) → Type 0
IsOther k None = Unit {0}
IsOther k (Some name) = bytes_eq k name ≡ false

-- a field that isn't due comes after, and so do those after it
pub not_due : (k : List ℕ) (o : Option Data) (fs : List Field) (name : Option (List ℕ)) → comes_before k name ≡ false → all_after k fs ≡ true → IsOther k name → IsPast name ((k, o) ∷ fs)
not_due k o fs None h g n = absurd (true≢false h)
not_due k o fs (Some name) h g n =
    let after = greater_else (slice_cmp nat_cmp k name) h (is_eq-slice_cmp k name ∙ n) in
    and (is_gt (slice_cmp nat_cmp k name)) (all_after name fs) after (all_later name k fs after g)

-- ---- fields in order

abbrev pub insert : Field → List Field → List Field
insert f [] = f ∷ []
insert f (g ∷ gs) = cond (is_lt (slice_cmp nat_cmp f.0 g.0)) (f ∷ g ∷ gs) (g ∷ insert f gs)

-- no field of the list has this name, and they are in order there
abbrev pub fits : List ℕ → List Field → Bool
fits k [] = true
fits k (g ∷ gs) = cond (is_lt (slice_cmp nat_cmp k g.0)) (all_after k (g ∷ gs)) (is_gt (slice_cmp nat_cmp k g.0) && fits k gs)

put_front : (k : List ℕ) (d : Data) (gs : List Field) → all_after k gs ≡ true → put k d (fields gs no_members) ≡ member k d (fields gs no_members)
put_front k d [] h = refl
put_front k d (g ∷ gs) h =
    let parts = both (is_gt (slice_cmp nat_cmp g.0 k)) (all_after k gs) h in
    one g.1 parts.0 (put_front k d gs parts.1)
  where
    one : (o : Option Data) → is_gt (slice_cmp nat_cmp g.0 k) ≡ true → put k d (fields gs no_members) ≡ member k d (fields gs no_members)
        → put k d (member_if g.0 o (fields gs no_members)) ≡ member k d (member_if g.0 o (fields gs no_members))
    one None a b = b
    one (Some e) a b =
        at_less (slice_cmp nat_cmp k g.0) _ _ _ (ap is_lt (nat_list_cmp_total.antisymm k g.0 ∙ is_less (slice_cmp nat_cmp g.0 k) a))

put_in : (k : List ℕ) (d : Data) (gs : List Field) → fits k gs ≡ true → put k d (fields gs no_members) ≡ fields (insert (k, Some d) gs) no_members
put_in k d [] h = refl
put_in k d (g ∷ gs) h = at (is_lt (slice_cmp nat_cmp k g.0)) h (put_in k d gs)
  where
    behind : (o : Option Data) → is_gt (slice_cmp nat_cmp k g.0) ≡ true → put k d (fields gs no_members) ≡ fields (insert (k, Some d) gs) no_members
        → put k d (member_if g.0 o (fields gs no_members)) ≡ member_if g.0 o (fields (insert (k, Some d) gs) no_members)
    behind None a b = b
    behind (Some e) a b = at_greater (slice_cmp nat_cmp k g.0) _ _ _ a ∙ ap (member g.0 e) b

    at : (b : Bool) → cond b (all_after k (g ∷ gs)) (is_gt (slice_cmp nat_cmp k g.0) && fits k gs) ≡ true
        → (fits k gs ≡ true → put k d (fields gs no_members) ≡ fields (insert (k, Some d) gs) no_members)
        → put k d (fields (g ∷ gs) no_members) ≡ fields (cond b ((k, Some d) ∷ g ∷ gs) (g ∷ insert (k, Some d) gs)) no_members
    at true a more = put_front k d (g ∷ gs) a
    at false a more =
        let parts = both (is_gt (slice_cmp nat_cmp k g.0)) (fits k gs) a in
        behind g.1 parts.0 (more parts.1)

none_in : (k : List ℕ) (gs : List Field) → fields gs no_members ≡ fields (insert (k, None) gs) no_members
none_in k [] = refl
none_in k (g ∷ gs) = at (is_lt (slice_cmp nat_cmp k g.0)) (none_in k gs)
  where
    at : (b : Bool) → fields gs no_members ≡ fields (insert (k, None) gs) no_members
        → fields (g ∷ gs) no_members ≡ fields (cond b ((k, None) ∷ g ∷ gs) (g ∷ insert (k, None) gs)) no_members
    at true h = refl
    at false h = ap (member_if g.0 g.1) h

abbrev pub inserted : List Field → List Field → List Field
inserted [] gs = gs
inserted (f ∷ fs) gs = inserted fs (insert f gs)

abbrev pub all_fit : List Field → List Field → Bool
all_fit [] gs = true
all_fit (f ∷ fs) gs = fits f.0 gs && all_fit fs (insert f gs)

-- fields that are put one after the other are those of the list in order
pub in_order : (fs gs : List Field) → all_fit fs gs ≡ true → with_fields fs (fields gs no_members) ≡ fields (inserted fs gs) no_members
in_order [] gs h = refl
in_order (f ∷ fs) gs h =
    let parts = both (fits f.0 gs) (all_fit fs (insert f gs)) h in
    ap (with_fields fs) (one f.1 parts.0) ∙ in_order fs (insert f gs) parts.1
  where
    one : (o : Option Data) → fits f.0 gs ≡ true → put_if f.0 o (fields gs no_members) ≡ fields (insert (f.0, o) gs) no_members
    one None a = none_in f.0 gs
    one (Some d) a = put_in f.0 d gs a

pub meta_in_order : (m : ObjectMeta) → meta_data m ≡ object (meta_members m no_members)
unfolding meta_data meta_fields meta_members sorted_fields
meta_in_order m = ap object (in_order (meta_fields m) [] refl)

-- ---- the members of an object

pub no_name : (a b c : Bool) → (a || b || c) ≡ false → (a ≡ false) × (b ≡ false) × (c ≡ false)
no_name true b c h = absurd (true≢false h)
no_name false true c h = absurd (true≢false h)
no_name false false c h = (refl, refl, h)

pub other_version : (name : Option (List ℕ)) → is_named_one name ≡ false → IsOther (codes "apiVersion") name
other_version None h = tt
other_version (Some name) h = (no_name (bytes_eq (codes "apiVersion") name) (bytes_eq (codes "kind") name) (bytes_eq (codes "metadata") name) h).0

pub other_kind : (name : Option (List ℕ)) → is_named_one name ≡ false → IsOther (codes "kind") name
other_kind None h = tt
other_kind (Some name) h = (no_name (bytes_eq (codes "apiVersion") name) (bytes_eq (codes "kind") name) (bytes_eq (codes "metadata") name) h).1

pub other_metadata : (name : Option (List ℕ)) → is_named_one name ≡ false → IsOther (codes "metadata") name
other_metadata None h = tt
other_metadata (Some name) h = (no_name (bytes_eq (codes "apiVersion") name) (bytes_eq (codes "kind") name) (bytes_eq (codes "metadata") name) h).2

-- ---- the whole

pub object_as_fields : (o : ObjectData) → object_data o ≡ object (with_fields (left nexts.ApiVersion o) (others (content_members o.content)))
unfolding object_data
object_as_fields o = at o.types
  where
    at : (t : Option TypeMeta)
        → object (put (codes "metadata") (meta_data o.metadata) (with_fields (type_fields t) (others (content_members o.content))))
        ≡ object (put (codes "metadata") (meta_data o.metadata) (put_if (codes "kind") (option_map (λ x. string x.kind) t) (put_if (codes "apiVersion") (option_map (λ x. string x.api_version) t) (others (content_members o.content)))))
    at None = refl
    at (Some t) = refl
