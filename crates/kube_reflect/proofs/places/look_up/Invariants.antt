use Rattle.std.proofs.Common.{◌-◌, ◌≤◌, length}
use Rattle.kube_meta.specs.Keys.{reference_of}
use Rattle.kube_reflect.specs.Indexes.{reference_cmp, no_reference, sought, references, IsBelow, IsAbove}
use Rattle.kube_reflect.specs.Views.{all_stored}
use Rattle.kube_reflect.proofs.Halving.{Halves}
use Rattle.kube_reflect.proofs.places.look_up.Given as goal

-- what is sought stands between, and each step halved that
abbrev pub invariant-loop-low : goal.invariant-loop-low
invariant-loop-low g l =
    let keys = references (all_stored g.K.Resource.type_of l.items) in
    let key = sought l.within (reference_of g.K.Resource.type_of l.reference) in
    record {
      order : l.low ≤ l.high;
      end : l.high ≤ length l.places;
      below : IsBelow reference_cmp no_reference keys l.places key l.low;
      above : IsAbove reference_cmp no_reference keys l.places key l.high;
      cost : Halves (length l.items) l.fn.steps l.steps (l.high - l.low);
    }

abbrev pub decreases-loop-low : goal.decreases-loop-low
decreases-loop-low g l = l.high - l.low
