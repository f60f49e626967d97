use Rattle.std.proofs.Common.{◌≡◌, drop, map}
use Rattle.serde_json.specs.View.{items_view}
use Rattle.kube_meta.specs.Reading.{items_at}
use Rattle.kube_script.proofs.Loops.{with_front}
use Rattle.kube_script.proofs.row.items.Given as goal

abbrev pub invariant-loop-index : goal.invariant-loop-index
invariant-loop-index g l = with_front (map g.R.Row.seen l.rows.items) (items_at g.R.Row.reads l.index (items_view (drop l.index l.values))) ≡ items_at g.R.Row.reads 0 (items_view l.values)
