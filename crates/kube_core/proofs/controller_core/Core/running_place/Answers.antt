use Rattle.std.proofs.Common.{sym, subst}
use Rattle.kube_history.specs.CoreEvents.{queue_of, running_of}
use Rattle.kube_core.specs.Cores.{Parts, StandsFor}
use Rattle.kube_core.proofs.controller_core.Core.running_place.Goals as goal

pub returns : goal.returns
returns g c core es s =
    let z = subst (λ (p : Parts g.row.K.Denot g.row.K-DynamicType.Denot). StandsFor g.K.Resource.type_of g.K.Resource.meta_of core es p) (sym c.self.view_is) s in
    c.running_place.ensures core (queue_of core es) (running_of es) z.pending
