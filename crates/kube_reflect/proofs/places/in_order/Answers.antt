use Rattle.std.proofs.Common.{arith, length}
use Rattle.kube_reflect.proofs.Sorting.{all_counted, all_moved}
use Rattle.kube_reflect.proofs.places.in_order.Goals as goal

pub returns : goal.returns
returns g c =
    let n = length c.args.items.now in
    let before = c.loop-place.places.items in
    let i = c.loop-place.invariant in
    let len = i.0 in
    all_moved n before c.sort_unstable_by.new.self.items (all_counted n before (omega arith) (λ k h. i.1 k (omega arith))) c.sort_unstable_by.ensures.permutation
