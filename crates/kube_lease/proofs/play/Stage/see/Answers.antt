use Rattle.kube_lease.proofs.play.Stage.see.Goals as goal

pub returns-clause-seen : goal.returns-clause-seen
returns-clause-seen c l h = record { object = c.in_ok-object.object; more = c.in_ok-push.ensures.items; seen = c.in_ok-object.ensures l h }
