use Rattle.std.proofs.Common.{sym, subst}
use Rattle.kube_meta.specs.Keys.{reference_of}
use Rattle.kube_reflect.specs.Writers.{AllStay}
use Rattle.kube_reflect.proofs.Staying.{stay-offered}
use Rattle.kube_reflect.proofs.store.Writer.offer.Goals as goal

pub returns-in-Ok-clause-live : goal.returns-in-Ok-clause-live
returns-in-Ok-clause-live g c =
    subst (AllStay c.args.self.now) (sym c.in-Ok.ensures.offered) (stay-offered c.args.self.now (reference_of g.K.Resource.type_of c.args.reference))
