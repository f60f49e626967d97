use Rattle.std.proofs.Common.{ap, sym, subst}
use mathlib.Core.List.{IsPrefix}
use Rattle.kube_reflect.proofs.Fronts.{prefix_self}
use Rattle.kube_reflect.proofs.copies.handle.Handle.learn.Goals as goal

pub returns-in-Some-clause-learnt : goal.returns-in-Some-clause-learnt
returns-in-Some-clause-learnt g c =
    let mine = c.args.mark.now.seen.log in
    subst (λ log. IsPrefix mine log) (sym (ap (λ s. s.log) c.in-Some.ensures.some.0)) (prefix_self mine)
