-- The calls of the map of objects, over its state.
use Rattle.std.proofs.Common.{◌≡◌, ℕ, Bool, true, false, List, [], ◌∷◌, ◌++◌, Option, Some, None, option_map, map, refl, sym, ap, ap₂, ◌∙◌, cond, string_bytes}
use Rattle.std.specs.Arc.{arc_value}
use Rattle.std.specs.declared.sync.Arc.{Arc}
use Rattle.std.specs.declared.cmp.Ordering.{Ordering}
use Rattle.std.specs.declared.cmp.Ordering.TheVariants.{Less, Equal, Greater}
use Rattle.std.specs.declared.string.String.{String}
use Rattle.std.specs.Ordering.{nat_cmp, match_ordering, ordering_then, is_eq}
use Rattle.std.specs.Option.{option_cmp}
use Rattle.std.specs.Cmp.Lexicographic.{slice_cmp}
use Rattle.std.specs.BTreeMap.{is_at, insert_entry}
use Rattle.std.specs.String.{string_cmp}
use Rattle.std.specs.Map.{lookup, remove_entry, values_of}
use Rattle.kube_server.specs.History.{Key, key_cmp, same_key, State, object_at, with_object, without_object, objects_of}
use Rattle.kube_server.specs.Stored.{key_at, state_held}

-- places compare as their keys do
abbrev pub place_cmp : {A : Type 0} → Option (String A) × String A → Option (String A) × String A → Ordering
place_cmp p q = ordering_then (option_cmp string_cmp p.0 q.0) (string_cmp p.1 q.1)

option_cmp-bytes : {A : Type 0} (a b : Option (String A))
    → option_cmp (slice_cmp nat_cmp) (option_map string_bytes a) (option_map string_bytes b) ≡ option_cmp string_cmp a b
option_cmp-bytes None None = refl
option_cmp-bytes None (Some b) = refl
option_cmp-bytes (Some a) None = refl
option_cmp-bytes (Some a) (Some b) = refl

pub key_cmp-key_at : {A : Type 0} (p q : Option (String A) × String A) → key_cmp (key_at p) (key_at q) ≡ place_cmp p q
key_cmp-key_at p q = ap (λ o. ordering_then o (string_cmp p.1 q.1)) (option_cmp-bytes p.0 q.0)

same-key_at : {A : Type 0} (p q : Option (String A) × String A) → same_key (key_at p) (key_at q) ≡ is_at (place_cmp p) q
same-key_at p q = ap is_eq (key_cmp-key_at p q)

map-cond : {X Y : Type 0} (f : X → Y) (b : Bool) (x : X) (o : Option X) → option_map f (cond b (Some x) o) ≡ cond b (Some (f x)) (option_map f o)
map-cond f true x o = refl
map-cond f false x o = refl

pub state-lookup : {A B V : Type 0} (p : Option (String A) × String A) (es : List ((Option (String A) × String A) × Arc V B))
    → option_map arc_value (lookup (is_at (place_cmp p)) es) ≡ object_at (key_at p) (state_held es)
state-lookup p [] = refl
state-lookup p (e ∷ es) =
    map-cond arc_value (is_at (place_cmp p) e.0) e.1 (lookup (is_at (place_cmp p)) es)
    ∙ ap₂ (λ b r. cond b (Some (arc_value e.1)) r) (sym (same-key_at p e.0)) (state-lookup p es)

held-match : {A B V : Type 0} (o : Ordering) (a b c : List ((Option (String A) × String A) × Arc V B))
    → state_held (match_ordering o a b c) ≡ match_ordering o (state_held a) (state_held b) (state_held c)
held-match Less a b c = refl
held-match Equal a b c = refl
held-match Greater a b c = refl

pub state-insert : {A B V : Type 0} (es : List ((Option (String A) × String A) × Arc V B)) (p : Option (String A) × String A) (v : Arc V B)
    → state_held (insert_entry place_cmp es p v) ≡ with_object (key_at p) (arc_value v) (state_held es)
state-insert [] p v = refl
state-insert (e ∷ es) p v =
    held-match (place_cmp p e.0) _ _ _
    ∙ ap₂ (λ o r. match_ordering o ((key_at p, arc_value v) ∷ (key_at e.0, arc_value e.1) ∷ state_held es) ((key_at e.0, arc_value v) ∷ state_held es) ((key_at e.0, arc_value e.1) ∷ r))
    (sym (key_cmp-key_at p e.0)) (state-insert es p v)

held-cond : {A B V : Type 0} (b : Bool) (x y : List ((Option (String A) × String A) × Arc V B))
    → state_held (cond b x y) ≡ cond b (state_held x) (state_held y)
held-cond true x y = refl
held-cond false x y = refl

pub state-remove : {A B V : Type 0} (p : Option (String A) × String A) (es : List ((Option (String A) × String A) × Arc V B))
    → state_held (remove_entry (is_at (place_cmp p)) es) ≡ without_object (key_at p) (state_held es)
state-remove p [] = refl
state-remove p (e ∷ es) =
    held-cond (is_at (place_cmp p) e.0) _ _
    ∙ ap₂ (λ b r. cond b (state_held es) ((key_at e.0, arc_value e.1) ∷ r)) (sym (same-key_at p e.0)) (state-remove p es)

pub values-held : {A B V : Type 0} (es : List ((Option (String A) × String A) × Arc V B))
    → map arc_value (values_of es) ≡ objects_of (state_held es)
values-held [] = refl
values-held (e ∷ es) = ap (λ r. arc_value e.1 ∷ r) (values-held es)

-- an object more, of those that are left
pub one_more_value : {V B : Type 0} (done left : List (Arc V B)) (x y : Arc V B) → arc_value x ≡ arc_value y
    → map arc_value (done ++ x ∷ []) ++ map arc_value left ≡ map arc_value done ++ map arc_value (y ∷ left)
one_more_value [] left x y e = ap (λ v. v ∷ map arc_value left) e
one_more_value (d ∷ done) left x y e = ap (λ r. arc_value d ∷ r) (one_more_value done left x y e)
