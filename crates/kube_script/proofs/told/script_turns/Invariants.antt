use Rattle.std.proofs.Common.{◌≡◌, ◌++◌, map}
use Rattle.std.specs.Vec.Iter.{into_iter_items}
use Rattle.kube_object.specs.Named.{named_type}
use Rattle.kube_turn.specs.Records.{turns_of}
use Rattle.kube_script.specs.SeenTurn.{seen_turn}
use Rattle.kube_script.specs.Told.{turn_in, fault_text, faults_in}
use Rattle.kube_script.proofs.told.script_turns.Given as goal

abbrev pub invariant-loop-row : goal.invariant-loop-row
invariant-loop-row l =
    (turns_of named_type l.turns.items ++ map (turn_in (named_type l.fn.kind)) (map seen_turn (into_iter_items l.row-iterator))
    ≡ map (turn_in (named_type l.fn.kind)) (map seen_turn l.fn.rows.items))
    × (map (λ t. map (λ f. fault_text f.outcome) t.finishes) l.turns.items ++ map (λ t. faults_in t.finishes) (map seen_turn (into_iter_items l.row-iterator)) ≡ map (λ t. faults_in t.finishes) (map seen_turn l.fn.rows.items))
