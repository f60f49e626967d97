use Rattle.std.proofs.Common.{ap, sym, subst, ◌∙◌}
use Rattle.kube_meta.specs.Reading.{seen_object}
use Rattle.kube_lease.specs.Played.{IsSeenAs}
use Rattle.kube_lease.proofs.play.Stage.lease.Goals as goal

pub returns : goal.returns
returns c l h = subst (λ x. IsSeenAs x l) (sym (c.in_ok-lease.ensures ∙ ap seen_object c.deref-object.ensures)) (c.in_ok-object.ensures l h)
