use Rattle.std.proofs.Common.{◌≡◌, List, ◌++◌}
use Rattle.serde_json.specs.View.{members_view}
use Rattle.serde_json.proofs.Views.{Entry}
use Rattle.kube_meta.specs.Reading.{pairs_at}
use Rattle.kube_script.proofs.Loops.{with_front, SameNames}
use Rattle.kube_script.proofs.row.texts.Given as goal

-- the texts so far stand under the names of the members so far
abbrev pub invariant-loop-name : goal.invariant-loop-name
invariant-loop-name l =
    (done : List Entry) × (l.fn.members.entries ≡ done ++ l.name-iterator) × SameNames l.texts done × (with_front l.texts (pairs_at (members_view l.name-iterator)) ≡ pairs_at (members_view l.fn.members.entries))
