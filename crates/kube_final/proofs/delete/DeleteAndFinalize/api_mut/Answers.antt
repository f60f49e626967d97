use Rattle.kube_final.proofs.Lent.{lent}
use Rattle.kube_final.proofs.delete.DeleteAndFinalize.api_mut.Goals as goal

pub invariant_of-self-lent : goal.invariant_of-self-lent
invariant_of-self-lent g c = λ api. lent c.self.inside.watch api c.self.invariant
