use Rattle.std.proofs.Common.{◌≡◌, take}
use Rattle.kube_streams.specs.Properties.{folded}
use Rattle.kube_streams.proofs.fold.FoldHasher.write.Given as goal

abbrev pub invariant-loop-byte : goal.invariant-loop-byte
invariant-loop-byte l = l.self-inside.number ≡ folded l.initial.self-inside.number (take l.byte-index l.bytes)
