use Rattle.std.proofs.Common.{ap, ◌∙◌}
use Rattle.std.specs.Fn.{FnReturnsAt}
use Rattle.kube_core.specs.Pendings.{is_idle}
use Rattle.kube_core.proofs.Firsts.{first-find}
use Rattle.kube_core.proofs.pending.first_idle.Goals as goal

pub returns : goal.returns
returns g c events s =
    let type_of = g.K.Resource.type_of in
    first-find (FnReturnsAt _ _) (is_idle type_of c.args.running.now.entries)
    (λ q b h. h.says.met ∙ ap (is_idle type_of c.args.running.now.entries) h.shows) _ _ (c.first.ensures events s)
