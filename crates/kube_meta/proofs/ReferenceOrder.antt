-- The order of references by namespace and name is that of the comparisons of std, and so total.
use Rattle.std.proofs.Common.{◌≡◌, ℕ, Bool, true, false, ◌||◌, ◌&&◌, ◌==◌, nat_lt, cond, List, [], ◌∷◌, Option, Some, None, refl, sym, ap, ◌∙◌, true≢false}
use Rattle.std.specs.Str.{bytes_eq}
use Rattle.std.specs.Option.{option_eq, option_cmp}
use Rattle.std.specs.Ordering.{nat_cmp, ordering_then, ordering_reverse, is_lt, is_eq, is_gt}
use Rattle.std.specs.declared.cmp.Ordering.{Ordering}
use Rattle.std.specs.declared.cmp.Ordering.TheVariants.{Less, Equal, Greater}
use Rattle.std.specs.Cmp.{IsTotalOrder, then_total, on_total, tied_itself}
use Rattle.std.specs.Cmp.Lexicographic.{slice_cmp, nat_list_cmp_total, options_total, bytes_decides}
use Rattle.std.proofs.lemmas.Map.Text.{is_eq-slice_cmp}
use Rattle.kube_meta.specs.Reference.{Reference, text_before, namespace_before, reference_before}

step : (a b : Bool) (r : Ordering) → is_lt (ordering_then (cond a Less (cond b Equal Greater)) r) ≡ (a || b && is_lt r)
step true b r = refl
step false true r = refl
step false false r = refl

texts : (cs ds : List ℕ) → is_lt (slice_cmp nat_cmp cs ds) ≡ text_before cs ds
texts [] [] = refl
texts [] (d ∷ ds) = refl
texts (c ∷ cs) [] = refl
texts (c ∷ cs) (d ∷ ds) =
    step (nat_lt c d) (c == d) (slice_cmp nat_cmp cs ds) ∙ ap (λ k. nat_lt c d || (c == d) && k) (texts cs ds)

namespaces : (m n : Option (List ℕ)) → is_lt (option_cmp (slice_cmp nat_cmp) m n) ≡ namespace_before m n
namespaces None None = refl
namespaces None (Some d) = refl
namespaces (Some c) None = refl
namespaces (Some c) (Some d) = texts c d

level : (m n : Option (List ℕ)) → is_eq (option_cmp (slice_cmp nat_cmp) m n) ≡ option_eq bytes_eq m n
level None None = refl
level None (Some d) = refl
level (Some c) None = refl
level (Some c) (Some d) = is_eq-slice_cmp c d

first : (r s : Ordering) → is_lt (ordering_then r s) ≡ (is_lt r || is_eq r && is_lt s)
first Less s = refl
first Equal s = refl
first Greater s = refl

-- by namespace, and then by name
abbrev pub by_name : Reference → Reference → Ordering
by_name a b = ordering_then (option_cmp (slice_cmp nat_cmp) a.namespace b.namespace) (slice_cmp nat_cmp a.name b.name)

pub by_name-total : IsTotalOrder by_name
by_name-total =
    then_total (on_total (λ (r : Reference). r.namespace) (options_total nat_list_cmp_total)) (on_total (λ (r : Reference). r.name) nat_list_cmp_total)

pub before-by_name : (a b : Reference) → is_lt (by_name a b) ≡ reference_before a b
before-by_name a b =
    first (option_cmp (slice_cmp nat_cmp) a.namespace b.namespace) (slice_cmp nat_cmp a.name b.name)
    ∙ (λ i. namespaces a.namespace b.namespace i || level a.namespace b.namespace i && texts a.name b.name i)

turned : (r : Ordering) → is_gt (ordering_reverse r) ≡ is_lt r
turned Less = refl
turned Equal = refl
turned Greater = refl

pub after-by_name : (a b : Reference) → is_gt (by_name a b) ≡ reference_before b a
after-by_name a b = ap is_gt (by_name-total.antisymm a b) ∙ (turned (by_name b a) ∙ before-by_name b a)

less : (r : Ordering) → is_lt r ≡ true → r ≡ Less
less Less h = refl
less Equal h = absurd (true≢false (sym h))
less Greater h = absurd (true≢false (sym h))

pub before-itself : (a : Reference) → reference_before a a ≡ false
before-itself a = sym (before-by_name a a) ∙ ap is_lt (tied_itself by_name-total a)

pub before-transitive : (a b c : Reference) → reference_before a b ≡ true → reference_before b c ≡ true → reference_before a c ≡ true
before-transitive a b c h k =
    sym (before-by_name a c)
    ∙ ap is_lt (by_name-total.trans a b c (less (by_name a b) (before-by_name a b ∙ h)) (less (by_name b c) (before-by_name b c ∙ k)))

both : (r s : Ordering) → is_lt (ordering_then r s) ≡ false → is_gt (ordering_then r s) ≡ false → (is_eq r ≡ true) × (is_eq s ≡ true)
both Less s h k = absurd (true≢false h)
both Greater s h k = absurd (true≢false k)
both Equal Less h k = absurd (true≢false h)
both Equal Equal h k = (refl, refl)
both Equal Greater h k = absurd (true≢false k)

neither : (a b : Reference) → reference_before a b ≡ false → reference_before b a ≡ false
    → (option_eq bytes_eq a.namespace b.namespace ≡ true) × (bytes_eq a.name b.name ≡ true)
neither a b h k =
    let p = both (option_cmp (slice_cmp nat_cmp) a.namespace b.namespace) (slice_cmp nat_cmp a.name b.name) (before-by_name a b ∙ h) (after-by_name a b ∙ k) in
    (sym (level a.namespace b.namespace) ∙ p.0, sym (is_eq-slice_cmp a.name b.name) ∙ p.1)

same : (m n : Option (List ℕ)) → option_eq bytes_eq m n ≡ true → m ≡ n
same None None h = refl
same None (Some d) h = absurd (true≢false (sym h))
same (Some c) None h = absurd (true≢false (sym h))
same (Some c) (Some d) h = ap Some ((bytes_decides c d).0 h)

pub neither-namespaces : (a b : Reference) → reference_before a b ≡ false → reference_before b a ≡ false → a.namespace ≡ b.namespace
neither-namespaces a b h k = same a.namespace b.namespace (neither a b h k).0

pub neither-names : (a b : Reference) → reference_before a b ≡ false → reference_before b a ≡ false → a.name ≡ b.name
neither-names a b h k = (bytes_decides a.name b.name).0 (neither a b h k).1
