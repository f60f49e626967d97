use Rattle.std.proofs.Common.{[], ◌∷◌, ◌++◌, sym, ap, subst, ◌∙◌}
use Rattle.kube_lock_tests.specs.Stocks.{Took, MayHappen}
use Rattle.kube_lock_tests.proofs.Happening.{leaves_more, may_happen}
use Rattle.kube_lock_tests.proofs.desk.Desk.take.Goals as goal

pub returns-in_err-reserve-clause-legal : goal.returns-in_err-reserve-clause-legal
returns-in_err-reserve-clause-legal g c =
    let d = c.self.inside in
    subst (MayHappen d.opened.value) (sym c.reserve.ensures.items) (may_happen d.opened.value d.events.items d.stock c.self.invariant)

pub invariant_of-self-2 : goal.invariant_of-self-2
invariant_of-self-2 g c =
    let d = c.self.inside in
    let e = Took c.args.pass c.take-thing.result in
    leaves_more d.opened.value d.events.items c.push_reserved.new.self.items e d.stock c.take-thing.new.self
    (c.push_reserved.ensures.items ∙ ap (λ l. l ++ e ∷ []) c.reserve.ensures.items) c.self.invariant c.take-thing.ensures

pub returns-clause-legal : goal.returns-clause-legal
returns-clause-legal g c = may_happen c.self.inside.opened.value c.push_reserved.new.self.items c.take-thing.new.self (invariant_of-self-2 g c)
