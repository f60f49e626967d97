-- On putting an object among stored items, and on dropping one. Items are seen as references with objects.
use Rattle.std.proofs.Common.{◌≡◌, ℕ, zero, suc, ◌+◌, ◌<◌, Bool, true, false, not, ◌&&◌, cond, map, List, [], ◌∷◌, ◌++◌, length, get_or, set, take, drop, Option, Some, None, bytes_eq, refl, sym, ◌∙◌, ap, arith}
use Rattle.std.specs.Prelude.{slice_get}
use Rattle.std.specs.List.{filter}
use Rattle.std.specs.Option.{option_eq}
use Rattle.std.proofs.lemmas.Slice.Eq.{bytes_eq-Decides}
use Rattle.std.proofs.lemmas.List.{drop_more, drop-set, take-set, take-append-drop, map-append}
use Rattle.kube_meta.specs.Reference.{ObjectType, Reference, same_type, same_reference}
use Rattle.kube_reflect.specs.Cached.{put_under, drop_under}

set_split : {X : Type 0} (xs : List X) (i : ℕ) (y : X) → i < length xs → set xs i y ≡ take i xs ++ (y ∷ drop (i + 1) xs)
set_split xs i y h =
    sym (take-append-drop i (set xs i y)) ∙ (ap (λ ys. ys ++ drop i (set xs i y)) (take-set xs i y) ∙ ap (λ ys. take i xs ++ ys) (drop-set xs i y h))

-- References that are equal by their test are the same.

true_false : {P : Type 0} → true ≡ false → P
true_false h = cc

and_first : (a b : Bool) → (a && b) ≡ true → a ≡ true
and_first true b h = refl
and_first false b h = h

and_second : (a b : Bool) → (a && b) ≡ true → b ≡ true
and_second true b h = h
and_second false b h = true_false (sym h)

same-option : (a b : Option (List ℕ)) → option_eq bytes_eq a b ≡ true → a ≡ b
same-option None None h = refl
same-option None (Some y) h = true_false (sym h)
same-option (Some x) None h = true_false (sym h)
same-option (Some x) (Some y) h = ap Some ((bytes_eq-Decides x y).0 h)

abbrev type_of : List ℕ → List ℕ → List ℕ → List ℕ → ObjectType
type_of g v k p = record { group = g; version = v; kind = k; plural = p }

pub types-alike : (a b : ObjectType) → a.group ≡ b.group → a.version ≡ b.version → a.kind ≡ b.kind → a.plural ≡ b.plural → a ≡ b
types-alike a b g v k p =
    ap (λ (x : List ℕ). type_of x a.version a.kind a.plural) g
    ∙ (ap (λ (x : List ℕ). type_of b.group x a.kind a.plural) v
    ∙ (ap (λ (x : List ℕ). type_of b.group b.version x a.plural) k ∙ ap (λ (x : List ℕ). type_of b.group b.version b.kind x) p))

same-types : (a b : ObjectType) → same_type a b ≡ true → a ≡ b
same-types a b h =
    let gv = bytes_eq a.group b.group && bytes_eq a.version b.version in
    let gvk = bytes_eq a.group b.group && bytes_eq a.version b.version && bytes_eq a.kind b.kind in
    let first = and_first gvk (bytes_eq a.plural b.plural) h in
    let second = and_first gv (bytes_eq a.kind b.kind) first in
    types-alike a b ((bytes_eq-Decides a.group b.group).0 (and_first (bytes_eq a.group b.group) (bytes_eq a.version b.version) second))
    ((bytes_eq-Decides a.version b.version).0 (and_second (bytes_eq a.group b.group) (bytes_eq a.version b.version) second))
    ((bytes_eq-Decides a.kind b.kind).0 (and_second gv (bytes_eq a.kind b.kind) first))
    ((bytes_eq-Decides a.plural b.plural).0 (and_second gvk (bytes_eq a.plural b.plural) h))

abbrev reference_by : ObjectType → List ℕ → Option (List ℕ) → Reference
reference_by k n s = record { kind = k; name = n; namespace = s }

pub references-alike : (a b : Reference) → a.kind ≡ b.kind → a.name ≡ b.name → a.namespace ≡ b.namespace → a ≡ b
references-alike a b k n s =
    ap (λ (x : ObjectType). reference_by x a.name a.namespace) k
    ∙ (ap (λ (x : List ℕ). reference_by b.kind x a.namespace) n ∙ ap (λ (x : Option (List ℕ)). reference_by b.kind b.name x) s)

pub same-references : (a b : Reference) → same_reference a b ≡ true → a ≡ b
same-references a b h =
    let named = bytes_eq a.name b.name && option_eq bytes_eq a.namespace b.namespace in
    let first = and_first named (same_type a.kind b.kind) h in
    references-alike a b (same-types a.kind b.kind (and_second named (same_type a.kind b.kind) h))
    ((bytes_eq-Decides a.name b.name).0 (and_first (bytes_eq a.name b.name) (option_eq bytes_eq a.namespace b.namespace) first))
    (same-option a.namespace b.namespace (and_second (bytes_eq a.name b.name) (option_eq bytes_eq a.namespace b.namespace) first))

-- the item at a place
pub item-at : {A : Type 0} (xs : List A) (i : ℕ) (x : A) → i < length xs → x ≡ get_or xs i x → slice_get xs i ≡ Some x
item-at [] i x h e = absurd (omega arith)
item-at (y ∷ xs) zero x h e = ap Some (sym e)
item-at (y ∷ xs) (suc i) x h e = item-at xs i x (omega arith) e

module _ {S O : Type 0} (seen : S → Reference × O) where
  -- what a write at the first equal reference leaves, of an item that is then seen as the new pair
  pub put_hit : (xs : List S) (s x : S) (p : Reference × O) (i : ℕ) → i < length xs → x ≡ get_or xs i x → seen s ≡ p → same_reference (seen x).0 p.0 ≡ true
      → put_under (map seen xs) p ≡ map seen (take i xs) ++ put_under (map seen (drop i xs)) p
      → map seen (set xs i s) ≡ put_under (map seen xs) p
  put_hit xs s x p i h e is t passed =
      let d : drop i xs ≡ x ∷ drop (i + 1) xs = drop_more xs i x h ∙ ap (λ y. y ∷ drop (i + 1) xs) (sym e) in
      ap (map seen) (set_split xs i s h)
      ∙ (map-append seen (take i xs) (s ∷ drop (i + 1) xs)
      ∙ (ap (λ q. map seen (take i xs) ++ q ∷ map seen (drop (i + 1) xs)) is
      ∙ sym (passed ∙ (ap (λ ys. map seen (take i xs) ++ put_under (map seen ys) p) d
      ∙ ap (λ b. map seen (take i xs) ++ cond b (p ∷ map seen (drop (i + 1) xs)) (seen x ∷ put_under (map seen (drop (i + 1) xs)) p)) t))))

  filter_head : (b : Bool) (s : S) (ss : List S) (ps : List (Reference × O)) → map seen ss ≡ ps → map seen (cond b (s ∷ ss) ss) ≡ cond b (seen s ∷ ps) ps
  filter_head true s ss ps h = ap (λ qs. seen s ∷ qs) h
  filter_head false s ss ps h = h

  -- what is left without those of a reference
  pub dropped : (xs : List S) (r : Reference) (o : O) → map seen (filter (λ s. not (same_reference (seen s).0 r)) xs) ≡ drop_under (map seen xs) (r, o)
  dropped [] r o = refl
  dropped (x ∷ xs) r o = filter_head (not (same_reference (seen x).0 r)) x (filter (λ s. not (same_reference (seen s).0 r)) xs) _ (dropped xs r o)
