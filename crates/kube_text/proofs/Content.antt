-- The members of a content without those that are named as types or metadata.
use Rattle.std.proofs.Common.{◌≡◌, ℕ, Bool, true, false, ◌||◌, List, [], ◌∷◌, codes, if◌then◌else◌, string_bytes, string_cmp, String, Global, Less, true≢false, refl, sym, ap, subst, ◌∙◌}
use Rattle.std.specs.Str.{bytes_eq}
use Rattle.std.specs.Ordering.{is_eq}
use Rattle.std.specs.Cmp.Lexicographic.{bytes_decides}
use Rattle.std.specs.List.{AllByRecursion}
use Rattle.std.specs.List.Sorted.{IsStrictlySortedBy}
use Rattle.std.specs.Map.{keys_of}
use Rattle.std.proofs.lemmas.Map.Text.{is_eq-slice_cmp}
use Rattle.serde_json.specs.Data.{Data, Members, no_members, member}
use Rattle.serde_json.specs.View.{view, members_view}
use Rattle.serde_json.specs.declared.value.Value.{Value}
use Rattle.kube_meta.specs.Reading.{without, others}
use Rattle.kube_text.specs.Fields.{is_named}

-- no member has this name
abbrev IsAbsent : List ℕ → Members → Type 0
IsAbsent n no_members = Unit {0}
IsAbsent n (member k d ms) = (bytes_eq n k ≡ false) × IsAbsent n ms

absent_without : (n k : List ℕ) (ms : Members) → IsAbsent n ms → IsAbsent n (without k ms)
absent_without n k no_members h = tt
absent_without n k (member l d ms) h = at (bytes_eq k l) (absent_without n k ms h.1)
  where
    at : (b : Bool) → IsAbsent n (without k ms) → IsAbsent n (if b then ms else member l d (without k ms))
    at true more = h.1
    at false more = (h.0, more)

gone : (n : List ℕ) (ms : Members) → IsAbsent n ms → without n ms ≡ ms
gone n no_members h = refl
gone n (member l d ms) h = rw h.0 (ap (member l d) (gone n ms h.1))

dropped_version : (d : Data) (ms : Members) → IsAbsent (codes "apiVersion") ms → others (member (codes "apiVersion") d ms) ≡ others ms
unfolding others
dropped_version d ms h =
    let bare = without (codes "kind") (without (codes "metadata") ms) in
    sym (gone (codes "apiVersion") bare (absent_without (codes "apiVersion") (codes "kind") (without (codes "metadata") ms) (absent_without (codes "apiVersion") (codes "metadata") ms h)))

dropped_kind : (d : Data) (ms : Members) → IsAbsent (codes "kind") ms → others (member (codes "kind") d ms) ≡ others ms
unfolding others
dropped_kind d ms h =
    ap (without (codes "apiVersion")) (sym (gone (codes "kind") (without (codes "metadata") ms) (absent_without (codes "kind") (codes "metadata") ms h)))

dropped_metadata : (d : Data) (ms : Members) → IsAbsent (codes "metadata") ms → others (member (codes "metadata") d ms) ≡ others ms
unfolding others
dropped_metadata d ms h = ap (λ x. without (codes "apiVersion") (without (codes "kind") x)) (sym (gone (codes "metadata") ms h))

-- a named member is left out, where no other has its name
dropped : (k : List ℕ) (d : Data) (ms : Members) → is_named k ≡ true → IsAbsent k ms → others (member k d ms) ≡ others ms
dropped k d ms h a =
    at (bytes_eq (codes "apiVersion") k) (bytes_eq (codes "kind") k) (bytes_eq (codes "metadata") k)
    (λ e. (bytes_decides (codes "apiVersion") k).0 e) (λ e. (bytes_decides (codes "kind") k).0 e) (λ e. (bytes_decides (codes "metadata") k).0 e) h
  where
    at : (x y z : Bool) → (x ≡ true → codes "apiVersion" ≡ k) → (y ≡ true → codes "kind" ≡ k) → (z ≡ true → codes "metadata" ≡ k) → (x || y || z) ≡ true → others (member k d ms) ≡ others ms
    at true y z f g j e = subst (λ n. IsAbsent n ms → others (member n d ms) ≡ others ms) (f refl) (dropped_version d ms) a
    at false true z f g j e = subst (λ n. IsAbsent n ms → others (member n d ms) ≡ others ms) (g refl) (dropped_kind d ms) a
    at false false true f g j e = subst (λ n. IsAbsent n ms → others (member n d ms) ≡ others ms) (j refl) (dropped_metadata d ms) a
    at false false false f g j e = absurd (true≢false (sym e))

-- another member stays
kept : (k : List ℕ) (d : Data) (ms : Members) → is_named k ≡ false → others (member k d ms) ≡ member k d (others ms)
unfolding others
kept k d ms h = at (bytes_eq (codes "apiVersion") k) (bytes_eq (codes "kind") k) (bytes_eq (codes "metadata") k) refl refl refl h
  where
    at : (x y z : Bool) → bytes_eq (codes "apiVersion") k ≡ x → bytes_eq (codes "kind") k ≡ y → bytes_eq (codes "metadata") k ≡ z → (x || y || z) ≡ false
        → without (codes "apiVersion") (without (codes "kind") (without (codes "metadata") (member k d ms))) ≡ member k d (without (codes "apiVersion") (without (codes "kind") (without (codes "metadata") ms)))
    at true y z f g j e = absurd (true≢false e)
    at false true z f g j e = absurd (true≢false e)
    at false false true f g j e = absurd (true≢false e)
    at false false false f g j e = rw (j, g, f) refl

-- ---- entries in order

abbrev pub Entry : Type 0
Entry = String Global × Value

absent_after : (n : String Global) (es : List Entry) → AllByRecursion (λ y. string_cmp n y ≡ Less) (keys_of es) → IsAbsent (string_bytes n) (members_view es)
absent_after n [] h = tt
absent_after n (e ∷ es) h = (sym (is_eq-slice_cmp (string_bytes n) (string_bytes e.0)) ∙ ap is_eq h.0, absent_after n es h.1)

pub sorted_rest : (e : Entry) (es : List Entry) → IsStrictlySortedBy string_cmp (keys_of (e ∷ es)) → IsStrictlySortedBy string_cmp (keys_of es)
unfolding IsStrictlySortedBy
sorted_rest e es h = h.1

pub dropped_entry : (e : Entry) (es : List Entry) → IsStrictlySortedBy string_cmp (keys_of (e ∷ es)) → is_named (string_bytes e.0) ≡ true → others (members_view (e ∷ es)) ≡ others (members_view es)
unfolding IsStrictlySortedBy
dropped_entry e es h n = dropped (string_bytes e.0) (view e.1) (members_view es) n (absent_after e.0 es h.0)

-- the first entry has another name: its member stays
pub kept_entry : (name : List ℕ) (e : Entry) (entries es : List Entry) → entries ≡ e ∷ es → name ≡ string_bytes e.0 → is_named name ≡ false → others (members_view entries) ≡ member name (view e.1) (others (members_view es))
kept_entry name e entries es steps is other =
    ap (λ xs. others (members_view xs)) steps ∙ kept (string_bytes e.0) (view e.1) (members_view es) (ap is_named (sym is) ∙ other)
    ∙ ap (λ n. member n (view e.1) (others (members_view es))) (sym is)
