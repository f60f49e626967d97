use Rattle.std.proofs.Common.{◌≡◌, drop}
use Rattle.serde_json.specs.View.{view}
use Rattle.kube_api.specs.Patches.{found_by}
use Rattle.kube_api.proofs.pointer.find.Given as goal

abbrev pub invariant-loop-name : goal.invariant-loop-name
invariant-loop-name l = found_by (drop l.name-index l.names) (view l.found) ≡ found_by l.names (view l.value)
