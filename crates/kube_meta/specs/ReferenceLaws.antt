-- Equality of references is an equivalence, and so is that of what is seen as a reference.
use Rattle.std.specs.Cmp.{IsEquivalence, and_equiv, on_equiv}
use Rattle.std.specs.Cmp.Lexicographic.{nat_list_eq_equiv, options_equiv}
use Rattle.kube_meta.specs.Reference.{ObjectType, Reference, same_type, same_reference}

pub same_type_equiv : IsEquivalence same_type
same_type_equiv =
    and_equiv
    (and_equiv
    (and_equiv (on_equiv (λ (t : ObjectType). t.group) nat_list_eq_equiv) (on_equiv (λ (t : ObjectType). t.version) nat_list_eq_equiv))
    (on_equiv (λ (t : ObjectType). t.kind) nat_list_eq_equiv))
    (on_equiv (λ (t : ObjectType). t.plural) nat_list_eq_equiv)

pub same_reference_equiv : IsEquivalence same_reference
same_reference_equiv =
    and_equiv
    (and_equiv (on_equiv (λ (r : Reference). r.name) nat_list_eq_equiv) (on_equiv (λ (r : Reference). r.namespace) (options_equiv nat_list_eq_equiv)))
    (on_equiv (λ (r : Reference). r.kind) same_type_equiv)

-- what is seen as a reference is compared as it is seen
pub seen_equiv : {A : Type 0} (seen : A → Reference) → IsEquivalence (λ a b. same_reference (seen a) (seen b))
seen_equiv seen = on_equiv seen same_reference_equiv
