use Rattle.std.proofs.Common.{◌≡◌}
use Rattle.std.specs.List.{flat_map}
use Rattle.kube_meta.specs.Pairs.{pairs_of}
use Rattle.kube_streams.specs.Properties.{folded, pair_bytes}
use Rattle.kube_streams.proofs.fold.Fold.map.Given as goal

-- the pairs that are left come to what all come to
abbrev pub invariant-loop-key : goal.invariant-loop-key
invariant-loop-key l = folded l.self (flat_map pair_bytes (pairs_of l.key-iterator)) ≡ folded l.initial.self (flat_map pair_bytes (pairs_of l.initial.key-iterator))
