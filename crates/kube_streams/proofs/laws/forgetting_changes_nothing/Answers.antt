use Rattle.kube_streams.proofs.Forgetting.{nothing-changes}
use Rattle.kube_streams.proofs.laws.forgetting_changes_nothing.Goals as goal

pub returns : goal.returns
returns c = λ ttl from sights showings bs r p. nothing-changes ttl from sights showings bs r p
