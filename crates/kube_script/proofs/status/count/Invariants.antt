use Rattle.std.proofs.Common.{◌≡◌, ◌+◌, ◌≤◌, map, drop}
use Rattle.serde_json.specs.View.{view}
use Rattle.kube_script.specs.Script.{count_there}
use Rattle.kube_script.proofs.status.count.Given as goal

abbrev pub invariant-loop-name : goal.invariant-loop-name
invariant-loop-name l =
    (l.count + count_there (map (λ s. s.now) (drop l.name-index l.names)) (view l.fn.value) ≡ count_there (map (λ s. s.now) l.names) (view l.fn.value))
    × (l.count ≤ l.name-index)
