use Rattle.kube_final.proofs.Staging.{delete-asked}
use Rattle.kube_final.proofs.play.request.Goals as goal

pub returns-in-Ok-clause-serves : goal.returns-in-Ok-clause-serves
returns-in-Ok-clause-serves c state h g = delete-asked c.args.server.now c.request_delete.new.self _ state 0 g h c.in-Ok.ensures.step
