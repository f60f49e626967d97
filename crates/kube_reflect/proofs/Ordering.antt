-- The order of references: it is total, and only what is the same ties.
use Rattle.std.proofs.Common.{◌≡◌, ℕ, true, false, List, Option, Some, None, sym, ◌∙◌, ap, refl}
use Rattle.std.specs.declared.cmp.Ordering.{Ordering}
use Rattle.std.specs.declared.cmp.Ordering.TheVariants.{Less, Equal, Greater}
use Rattle.std.specs.Ordering.{is_eq, is_lt, is_gt, ordering_then}
use Rattle.std.specs.Cmp.{IsTotalOrder}
use Rattle.std.specs.Cmp.Lexicographic.{options_total, texts_ties, same_text}
use Rattle.std.specs.Option.{option_cmp}
use Rattle.std.proofs.lemmas.Cmp.{on_total, then_total, nat_list_cmp_total}
use Rattle.kube_meta.specs.Reference.{ObjectType, Reference}
use Rattle.kube_reflect.specs.Indexes.{text_cmp, type_cmp, reference_cmp}
use Rattle.kube_reflect.proofs.Putting.{types-alike, references-alike}

true_false : {P : Type 0} → true ≡ false → P
true_false h = cc

pub reference_total : IsTotalOrder reference_cmp
reference_total =
    then_total (on_total (λ (r : Reference). r.namespace) (options_total nat_list_cmp_total))
    (then_total (on_total (λ (r : Reference). r.name) nat_list_cmp_total)
    (on_total (λ (r : Reference). r.kind)
    (then_total (on_total (λ (t : ObjectType). t.group) nat_list_cmp_total)
    (then_total (on_total (λ (t : ObjectType). t.version) nat_list_cmp_total)
    (then_total (on_total (λ (t : ObjectType). t.kind) nat_list_cmp_total) (on_total (λ (t : ObjectType). t.plural) nat_list_cmp_total))))))

then_tied : (r s : Ordering) → ordering_then r s ≡ Equal → (r ≡ Equal) × (s ≡ Equal)
then_tied Less s h = true_false (ap is_lt h)
then_tied Equal s h = (refl, h)
then_tied Greater s h = true_false (ap is_gt h)

text_tied : (a b : List ℕ) → text_cmp a b ≡ Equal → a ≡ b
text_tied a b h = same_text a b (sym (texts_ties a b ∙ ap is_eq h))

namespace_tied : (a b : Option (List ℕ)) → option_cmp text_cmp a b ≡ Equal → a ≡ b
namespace_tied None None h = refl
namespace_tied None (Some y) h = true_false (ap is_lt h)
namespace_tied (Some x) None h = true_false (ap is_gt h)
namespace_tied (Some x) (Some y) h = ap Some (text_tied x y h)

type_tied : (a b : ObjectType) → type_cmp a b ≡ Equal → a ≡ b
type_tied a b h =
    let group = then_tied (text_cmp a.group b.group) _ h in
    let version = then_tied (text_cmp a.version b.version) _ group.1 in
    let kind = then_tied (text_cmp a.kind b.kind) _ version.1 in
    types-alike a b (text_tied a.group b.group group.0) (text_tied a.version b.version version.0) (text_tied a.kind b.kind kind.0)
    (text_tied a.plural b.plural kind.1)

pub reference_tied : (a b : Reference) → reference_cmp a b ≡ Equal → a ≡ b
reference_tied a b h =
    let namespaces = then_tied (option_cmp text_cmp a.namespace b.namespace) _ h in
    let names = then_tied (text_cmp a.name b.name) _ namespaces.1 in
    references-alike a b (type_tied a.kind b.kind names.1) (text_tied a.name b.name names.0) (namespace_tied a.namespace b.namespace namespaces.0)
