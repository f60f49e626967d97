-- Members that are moved out of an object, one after the other.
use Rattle.std.proofs.Common.{◌≡◌, ℕ, List, [], ◌∷◌, Option, Some, Bool, true, false, cond, if◌then◌else◌, option_map, string_bytes, refl, sym, ap, ap₂, ◌∙◌, true≢false}
use Rattle.std.specs.BTreeMap.{is_at}
use Rattle.std.specs.Cmp.Lexicographic.{slice_cmp, bytes_decides}
use Rattle.std.specs.declared.cmp.Ordering.{Ordering}
use Rattle.std.specs.declared.cmp.Ordering.TheVariants.{Less, Equal, Greater}
use Rattle.std.specs.Map.{lookup, remove_entry}
use Rattle.std.specs.Ordering.{nat_cmp, match_ordering, is_eq}
use Rattle.std.specs.Str.{bytes_eq}
use Rattle.std.proofs.lemmas.Map.Text.{is_eq-slice_cmp}
use Rattle.serde_json.specs.Data.{Data, Members, no_members, member}
use Rattle.serde_json.specs.Find.{get_member}
use Rattle.serde_json.specs.View.{view, members_view}
use Rattle.serde_json.specs.declared.value.Value.{Value}
use Rattle.serde_json.proofs.Views.{Entry}
use Rattle.kube_meta.specs.Reading.{without}

view_cond : (b : Bool) (xs ys : List Entry) → members_view (cond b xs ys) ≡ cond b (members_view xs) (members_view ys)
view_cond true xs ys = refl
view_cond false xs ys = refl

-- an entry is removed
pub removed : (k : List ℕ) (es : List Entry) → members_view (remove_entry (is_at (λ x. slice_cmp nat_cmp k (string_bytes x))) es) ≡ without k (members_view es)
removed k [] = refl
removed k (e ∷ es) =
    view_cond _ es _ ∙ ap₂ (λ b r. cond b (members_view es) (member (string_bytes e.0) (view e.1) r)) (is_eq-slice_cmp k (string_bytes e.0)) (removed k es)

unequal : {A : Type 0} (o : Ordering) (x y : A) → is_eq o ≡ false → match_ordering o x y x ≡ x
unequal Less x y h = refl
unequal Equal x y h = absurd (true≢false h)
unequal Greater x y h = refl

-- another member stays
pub get_other : (k l : List ℕ) (ms : Members) → bytes_eq k l ≡ false → get_member k (without l ms) ≡ get_member k ms
get_other k l no_members h = refl
get_other k l (member n d ms) h = at (bytes_eq l n) (λ e. (bytes_decides l n).0 e) (get_other k l ms h)
  where
    at : (b : Bool) → (b ≡ true → l ≡ n) → get_member k (without l ms) ≡ get_member k ms
        → get_member k (if b then ms else member n d (without l ms)) ≡ get_member k (member n d ms)
    at true same more =
        sym (unequal (slice_cmp nat_cmp k n) (get_member k ms) (Some d) (is_eq-slice_cmp k n ∙ ap (λ x. bytes_eq k x) (sym (same refl)) ∙ h))
    at false same more = ap (λ r. match_ordering (slice_cmp nat_cmp k n) r (Some d) r) more

found_or : (o : Ordering) (v : Value) (rest : Option Value) (d : Option Data) → option_map view rest ≡ d → option_map view (cond (is_eq o) (Some v) rest) ≡ match_ordering o d (Some (view v)) d
found_or Less v rest d e = e
found_or Equal v rest d e = refl
found_or Greater v rest d e = e

-- what is looked up is the member
pub looked_up : (name : List ℕ) (es : List Entry) → option_map view (lookup (is_at (λ k. slice_cmp nat_cmp name (string_bytes k))) es) ≡ get_member name (members_view es)
looked_up name [] = refl
looked_up name (e ∷ es) = found_or (slice_cmp nat_cmp name (string_bytes e.0)) e.1 _ _ (looked_up name es)
