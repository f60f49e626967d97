use Rattle.std.proofs.Common.{◌≡◌, take}
use Rattle.std.specs.List.{flat_map}
use Rattle.kube_streams.specs.Properties.{folded, text_bytes}
use Rattle.kube_streams.proofs.fold.Fold.list.Given as goal

abbrev pub invariant-loop-text : goal.invariant-loop-text
invariant-loop-text l = l.self ≡ folded l.initial.self (flat_map text_bytes (take l.text-index l.texts))
