use Rattle.std.proofs.Common.{◌≤◌, ◌++◌, ℕ, List, Option, false, map, drop}
use Rattle.std.specs.List.{filter_map}
use Rattle.serde_json.specs.View.{items_of}
use Rattle.serde_json.specs.Written.{items_text}
use Rattle.kube_object.specs.Named.{named_type}
use Rattle.kube_turn.specs.Views.{taken_of}
use Rattle.kube_text.specs.Pieces.{Holds}
use Rattle.kube_text.specs.TraceText.{taken_data}
use Rattle.kube_text.proofs.taken.write_taken.Given as goal

abbrev pub invariant-loop-taken : goal.invariant-loop-taken
invariant-loop-taken g l =
    ((left : List ℕ) (start : Option (List ℕ)) (whole : List ℕ)
    → Holds start (g.W.Sink.written l.fn.sink) l.fn.line.items (items_text false (items_of (map taken_data (filter_map (taken_of named_type) l.takes))) ++ left) whole
    → Holds start (g.W.Sink.written l.sink) l.line.items (items_text l.is_later (items_of (map taken_data (filter_map (taken_of named_type) (drop l.taken-index l.takes)))) ++ left) whole)
    × (g.W.Sink.faults l.fn.sink ≤ g.W.Sink.faults l.sink)
