use Rattle.std.proofs.Common.{◌≡◌, ◌++◌, map}
use Rattle.std.specs.Vec.Iter.{into_iter_items}
use Rattle.kube_object.specs.Named.{named_type}
use Rattle.kube_turn.specs.Records.{finish_of}
use Rattle.kube_script.specs.SeenTurn.{seen_finish}
use Rattle.kube_script.specs.Told.{finish_in, fault_text, faults_in}
use Rattle.kube_script.proofs.told.finishes.Given as goal

abbrev pub invariant-loop-row : goal.invariant-loop-row
invariant-loop-row l =
    (map (finish_of named_type) l.finishes ++ map (finish_in (named_type l.fn.kind)) (map seen_finish (into_iter_items l.row-iterator))
    ≡ map (finish_in (named_type l.fn.kind)) (map seen_finish l.fn.rows.items))
    × (map (λ f. fault_text f.outcome) l.finishes ++ faults_in (map seen_finish (into_iter_items l.row-iterator)) ≡ faults_in (map seen_finish l.fn.rows.items))
