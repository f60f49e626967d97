use Rattle.std.proofs.Common.{[], ◌∷◌, ◌++◌, refl, sym, ap, subst, ◌∙◌}
use Rattle.kube_lock_tests.specs.Stocks.{Marked, MayHappen}
use Rattle.kube_lock_tests.proofs.Happening.{leaves_more, may_happen}
use Rattle.kube_lock_tests.proofs.desk.Desk.mark.Goals as goal

pub returns-in_err-reserve-clause-legal : goal.returns-in_err-reserve-clause-legal
returns-in_err-reserve-clause-legal g c =
    let d = c.self.inside in
    subst (MayHappen d.opened.value) (sym c.reserve.ensures.items) (may_happen d.opened.value d.events.items d.stock c.self.invariant)

pub invariant_of-self-2 : goal.invariant_of-self-2
invariant_of-self-2 g c =
    let d = c.self.inside in
    leaves_more d.opened.value d.events.items c.push_reserved.new.self.items (Marked c.args.pass) d.stock d.stock
    (c.push_reserved.ensures.items ∙ ap (λ l. l ++ Marked c.args.pass ∷ []) c.reserve.ensures.items) c.self.invariant refl

pub returns-clause-legal : goal.returns-clause-legal
returns-clause-legal g c = may_happen c.self.inside.opened.value c.push_reserved.new.self.items c.self.inside.stock (invariant_of-self-2 g c)
