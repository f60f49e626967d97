use Rattle.std.proofs.Common.{sym, ap, ◌∙◌}
use Rattle.std.specs.List.{filter_map}
use Rattle.kube_model.specs.Raw.{grown_by}
use Rattle.kube_turn.specs.Views.{taken_of}
use Rattle.kube_step.specs.HandOvers.{handed_by}
use Rattle.kube_step.proofs.Taking.{grown-nil}
use Rattle.kube_step.proofs.turn.take_where.Goals as goal

pub returns-then-not-goes_on-clause-handed : goal.returns-then-not-goes_on-clause-handed
returns-then-not-goes_on-clause-handed g c =
    sym (ap (λ ts. grown_by (g.Rc.Reconciler.handed c.args.reconciler.now) (handed_by (filter_map (taken_of g.K.Resource.type_of) ts))) c.new.ensures ∙ grown-nil (g.Rc.Reconciler.handed c.args.reconciler.now))
