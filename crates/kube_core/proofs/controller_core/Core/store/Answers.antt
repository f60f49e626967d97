use Rattle.std.proofs.Common.{◌≡◌, ◌==◌, sym, subst, ap, rules}
use Rattle.kube_model.specs.Owed.{is_initial}
use Rattle.kube_reflect.specs.Exchanged.{IsLeftBy}
use Rattle.kube_turn.specs.Views.{exchange_of}
use Rattle.kube_core.specs.Cores.{Parts, IsOfType, TellsNamed}
use Rattle.kube_core.proofs.StoredSteps.{root-stored, root-initial}
use Rattle.kube_core.proofs.controller_core.Core.store.Goals as goal

pub returns-clause-stored : goal.returns-clause-stored
returns-clause-stored g c core own is left i may =
    let meta = g.K.Resource.meta_of in
    let zero : c.args.exchange.now.source ≡ 0 = search rules in
    root-stored meta core c.self.inside.writer.kind own (exchange_of g.K.Resource.type_of c.args.exchange.now) c.self.inside.writer.kept c.store_told.new.writer.kept c.self.inside.initial
    (ap (λ n. n == 0) zero)
    (subst (λ (p : Parts g.row.K.Denot g.row.K-DynamicType.Denot). IsOfType p.writer.kind g.K.Resource.meta_of core) (sym c.self.view_is) is)
    (subst (λ (p : Parts g.row.K.Denot g.row.K-DynamicType.Denot). IsLeftBy core.key own p.writer.kept) (sym c.self.view_is) left)
    (subst (λ (p : Parts g.row.K.Denot g.row.K-DynamicType.Denot). p.initial ≡ is_initial own) (sym c.self.view_is) i)
    (may zero) c.in_ok-store_told.ensures.kept

pub returns-clause-initial : goal.returns-clause-initial
returns-clause-initial g c own i =
    let zero : c.args.exchange.now.source ≡ 0 = search rules in
    root-initial g.K.Resource.meta_of own (exchange_of g.K.Resource.type_of c.args.exchange.now) c.self.inside.initial c.initial_after-self-inside.result
    (ap (λ n. n == 0) zero)
    (subst (λ (p : Parts g.row.K.Denot g.row.K-DynamicType.Denot). p.initial ≡ is_initial own) (sym c.self.view_is) i)
    c.initial_after-self-inside.ensures

pub returns-clause-named : goal.returns-clause-named
returns-clause-named g c =
    subst (λ (p : Parts g.row.K.Denot g.row.K-DynamicType.Denot). TellsNamed g.K.Resource.meta_of p.initial (exchange_of g.K.Resource.type_of c.args.exchange.now)) c.self.view_is
    (λ root. c.in_ok-store_told.ensures.named)
