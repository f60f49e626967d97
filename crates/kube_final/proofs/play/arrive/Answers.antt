use Rattle.std.proofs.Common.{map}
use Rattle.kube_api.specs.Patches.{operation_of}
use Rattle.kube_final.proofs.Asking.{arrival-asked}
use Rattle.kube_final.proofs.Sights.{arrival_came, on-ok}
use Rattle.kube_final.proofs.play.arrive.Goals as goal

pub returns-clause-serves : goal.returns-clause-serves
returns-clause-serves c = on-ok c.send.result _ _ (λ a. arrival_came c.args.server.now c.send.new.server _ (map operation_of c.args.patch.now) a) c.send.ensures

pub returns-clause-asked : goal.returns-clause-asked
returns-clause-asked c = on-ok c.send.result _ _ (λ a. arrival-asked c.args.server.now c.send.new.server _ (map operation_of c.args.patch.now) a) c.send.ensures
