use Rattle.kube_lease.proofs.Staging.{tick_stage}
use Rattle.kube_lease.proofs.play.Stage.tick.Goals as goal

pub returns-clause-stage : goal.returns-clause-stage
returns-clause-stage c es p h m = tick_stage es c.args.self.now p c.args.by c.plus-self.result h m c.plus-self.ensures
