use Rattle.std.proofs.Common.{subst, sym}
use Rattle.kube_meta.specs.Reading.{seen_object}
use Rattle.kube_lease.specs.Played.{IsSeenAs}
use Rattle.kube_lease.proofs.Staging.{observe_stage}
use Rattle.kube_lease.proofs.play.Stage.observe.Goals as goal

pub returns-clause-stage : goal.returns-clause-stage
returns-clause-stage c es p l h seen small = observe_stage es c.args.self.now p c.args.candidate l c.observe_at.new.candidates h small (c.in_ok-observe_at.ensures l (subst (λ x. IsSeenAs (seen_object x) l) (sym c.deref-object.ensures) seen))
