-- Sameness of what says which object it is, is an equivalence.
use Rattle.std.specs.Cmp.{IsEquivalence, and_equiv, on_equiv}
use Rattle.std.specs.Cmp.Lexicographic.{nat_list_eq_equiv, options_equiv}
use Rattle.kube_streams.specs.Filters.{Key, same_key}

pub same_key_equiv : IsEquivalence same_key
same_key_equiv =
    and_equiv
    (and_equiv (on_equiv (λ (k : Key). k.name) nat_list_eq_equiv) (on_equiv (λ (k : Key). k.namespace) (options_equiv nat_list_eq_equiv)))
    (on_equiv (λ (k : Key). k.uid) (options_equiv nat_list_eq_equiv))
