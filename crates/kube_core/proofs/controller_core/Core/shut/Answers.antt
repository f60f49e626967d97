use Rattle.std.proofs.Common.{◌≤◌, ◌++◌, ◌∷◌, [], true, refl, sym, subst, arith}
use Rattle.kube_core.specs.Cores.{Parts, StandsFor}
use Rattle.kube_history.specs.CoreEvents.{Shut}
use Rattle.kube_core.proofs.CoreSteps.{shut-core}
use Rattle.kube_core.proofs.controller_core.Core.shut.Goals as goal

pub returns-clause-stands : goal.returns-clause-stands
returns-clause-stands g c core es s =
    let type_of = g.K.Resource.type_of in
    let meta = g.K.Resource.meta_of in
    let z = subst (λ (p : Parts g.row.K.Denot g.row.K-DynamicType.Denot). StandsFor g.K.Resource.type_of g.K.Resource.meta_of core es p) (sym c.self.view_is) s in
    let inside : Parts g.row.K.Denot g.row.K-DynamicType.Denot = record { writer = c.self.inside.writer; pending = c.self.inside.pending; initial = c.self.inside.initial; clock = c.self.inside.clock; is_shut = c.self.inside.shut } in
    let m : c.self.inside.clock.0 ≤ c.self.inside.clock.0 = omega arith in
    subst (λ (p : Parts g.row.K.Denot g.row.K-DynamicType.Denot). StandsFor g.K.Resource.type_of g.K.Resource.meta_of core (es ++ Shut p.clock.0 ∷ []) (record { writer = c.self.inside.writer; pending = c.self.inside.pending; initial = c.self.inside.initial; clock = c.self.inside.clock; is_shut = true }))
    c.self.view_is (shut-core type_of meta core es inside (record inside { is_shut = true }) z c.self.inside.clock m refl refl refl refl refl)
