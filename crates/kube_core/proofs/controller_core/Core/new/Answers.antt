use Rattle.std.proofs.Common.{false, [], refl, sym, subst}
use Rattle.kube_history.specs.CoreEvents.{starting}
use Rattle.kube_reflect.specs.Exchanged.{IsLeftBy}
use Rattle.kube_reflect.proofs.Exchanging.{all-leave}
use Rattle.kube_core.specs.Cores.{IsOfType}
use Rattle.kube_core.proofs.controller_core.Core.new.Goals as goal

pub returns-clause-stands : goal.returns-clause-stands
returns-clause-stands g c core is l d =
    let meta = g.K.Resource.meta_of in
    let new = c.in_ok-new.ensures in
    record {
      world = subst (λ w. IsOfType w.kind meta core) (sym new) is;
      legal = tt;
      stored = subst (λ w. IsLeftBy core.key [] w.kept) (sym new) (all-leave core.key (starting false) [] tt);
      pending = c.new-2.ensures.stands core l d;
      initial = refl;
      clock = refl;
      shut = refl;
    }
