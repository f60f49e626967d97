use Rattle.std.proofs.Common.{◌≡◌, take}
use Rattle.kube_meta.proofs.metadata.copy_owners.Given as goal

abbrev pub invariant-loop-owner : goal.invariant-loop-owner
invariant-loop-owner l = l.copies ≡ take l.owner-index l.owners
