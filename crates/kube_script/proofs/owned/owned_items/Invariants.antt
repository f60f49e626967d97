use Rattle.std.proofs.Common.{◌≡◌, map, length}
use Rattle.std.specs.Vec.Iter.{into_iter_items}
use Rattle.serde_json.specs.View.{items_view}
use Rattle.kube_meta.specs.Reading.{items_at}
use Rattle.kube_script.proofs.Loops.{with_front}
use Rattle.kube_script.proofs.owned.owned_items.Given as goal

abbrev pub invariant-loop-value : goal.invariant-loop-value
invariant-loop-value g l = with_front (map g.R.OwnedRow.seen l.rows.items) (items_at g.R.OwnedRow.reads (length l.rows.items) (items_view (into_iter_items l.value-iterator))) ≡ items_at g.R.OwnedRow.reads 0 (items_view l.fn.values.items)
