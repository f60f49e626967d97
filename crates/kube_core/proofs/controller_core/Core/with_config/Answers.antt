use Rattle.std.proofs.Common.{[], sym, subst, ◌∙◌}
use Rattle.kube_reflect.specs.Exchanged.{IsLeftBy}
use Rattle.kube_core.specs.Cores.{IsOfType, Parts, StandsFor}
use Rattle.kube_core.proofs.controller_core.Core.with_config.Goals as goal

pub returns-clause-stands : goal.returns-clause-stands
returns-clause-stands g c first core s is l d =
    let z = subst (λ (p : Parts g.row.K.Denot g.row.K-DynamicType.Denot). StandsFor g.K.Resource.type_of g.K.Resource.meta_of first [] p) (sym c.self.view_is) s in
    let own = subst (λ (p : Parts g.row.K.Denot g.row.K-DynamicType.Denot). IsOfType p.writer.kind g.K.Resource.meta_of core) (sym c.self.view_is) is in
    record {
      world = own;
      legal = tt;
      stored = subst (λ key. IsLeftBy key [] c.self.inside.writer.kept) (z.world.key ∙ sym own.key) z.stored;
      pending = c.new.ensures.stands core l d;
      initial = z.initial;
      clock = z.clock;
      shut = z.shut;
    }
