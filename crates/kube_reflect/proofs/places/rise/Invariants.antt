use Rattle.std.proofs.Common.{◌≡◌, ℕ, ◌+◌, ◌<◌, ◌≤◌}
use Rattle.std.specs.declared.cmp.Ordering.TheVariants.{Less}
use Rattle.kube_reflect.specs.Indexes.{reference_cmp, no_reference, references, key_at}
use Rattle.kube_reflect.specs.Views.{all_stored}
use Rattle.kube_reflect.proofs.places.rise.Given as goal

-- the references rise up to here
abbrev pub invariant-loop-i : goal.invariant-loop-i
invariant-loop-i g l =
    let keys = references (all_stored g.K.Resource.type_of l.items) in
    (1 ≤ l.i) × ((j : ℕ) → j + 1 < l.i → reference_cmp (key_at reference_cmp no_reference keys l.places j) (key_at reference_cmp no_reference keys l.places (j + 1)) ≡ Less)
