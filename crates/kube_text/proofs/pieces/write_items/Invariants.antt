use Rattle.std.proofs.Common.{◌≤◌, ◌++◌, ℕ, List, Option, false, map, drop}
use Rattle.serde_json.specs.View.{items_of}
use Rattle.serde_json.specs.Written.{items_text}
use Rattle.kube_text.specs.Pieces.{Holds}
use Rattle.kube_text.proofs.pieces.write_items.Given as goal

abbrev pub invariant-loop-value : goal.invariant-loop-value
invariant-loop-value g l =
    ((left : List ℕ) (start : Option (List ℕ)) (whole : List ℕ)
    → Holds start (g.W.Sink.written l.fn.sink) l.fn.line.items (items_text false (items_of (map g.T.Show.data_of (map g.T.Show.seen l.items))) ++ left) whole
    → Holds start (g.W.Sink.written l.sink) l.line.items (items_text l.is_later (items_of (map g.T.Show.data_of (map g.T.Show.seen (drop l.value-index l.items)))) ++ left) whole)
    × (g.W.Sink.faults l.fn.sink ≤ g.W.Sink.faults l.sink)
