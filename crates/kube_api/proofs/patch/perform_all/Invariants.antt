use Rattle.std.proofs.Common.{◌≡◌, drop, map}
use Rattle.serde_json.specs.View.{view}
use Rattle.kube_api.specs.Patches.{operation_of, performed_from}
use Rattle.kube_api.proofs.patch.perform_all.Given as goal

abbrev pub invariant-loop-index : goal.invariant-loop-index
invariant-loop-index l = performed_from l.index (map operation_of (drop l.index l.patch)) (view l.document) ≡ performed_from 0 (map operation_of l.patch) (view l.initial.document)
