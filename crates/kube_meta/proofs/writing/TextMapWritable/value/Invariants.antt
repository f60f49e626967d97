use Rattle.std.proofs.Common.{◌≡◌, List, ◌++◌}
use Rattle.serde_json.specs.View.{members_view}
use Rattle.kube_meta.specs.Pairs.{pairs_of}
use Rattle.kube_meta.specs.Writing.{text_members}
use Rattle.kube_meta.proofs.Loops.{TextEntry}
use Rattle.kube_meta.proofs.writing.TextMapWritable.value.Given as goal

abbrev pub invariant-loop-name : goal.invariant-loop-name
invariant-loop-name l =
    (done : List TextEntry) × (l.initial.name-iterator ≡ done ++ l.name-iterator) × (members_view l.members.entries ≡ text_members (pairs_of done))
