use Rattle.kube_lease.proofs.Staging.{send_stage}
use Rattle.kube_lease.proofs.play.Stage.send.Goals as goal

pub returns-clause-stage : goal.returns-clause-stage
returns-clause-stage c es p h = send_stage es c.args.self.now p c.args.candidate c.post_at.new.candidates c.post_at.new.outbox h c.in_ok-post_at.ensures.same c.in_ok-post_at.ensures.posted
