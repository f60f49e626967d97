use Rattle.kube_meta.specs.Resources.{resource_type}
use Rattle.kube_lease.proofs.Serving.{put_opened}
use Rattle.kube_lease.proofs.play.opened.Goals as goal

pub returns-in-Ok-clause-opened : goal.returns-in-Ok-clause-opened
returns-in-Ok-clause-opened c =
    put_opened (resource_type c.args.resource.value) c.new-server.result c.put.new.self c.in_ok-object.object c.new-server.ensures c.in_ok-object.ensures c.in-Ok.ensures.step
