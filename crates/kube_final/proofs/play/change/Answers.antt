use Rattle.std.proofs.Common.{map, ap, ◌∙◌, subst}
use Rattle.kube_api.specs.Patches.{operation_of}
use Rattle.kube_final.specs.Playing.{IsAnswered}
use Rattle.kube_final.proofs.Sights.{change_came, on-ok}
use Rattle.kube_final.proofs.play.change.Goals as goal

pub returns-clause-serves : goal.returns-clause-serves
returns-clause-serves c =
    let operations = ap (map operation_of) c.as_slice.ensures.value ∙ c.in_ok-patch.ensures.operations in
    on-ok c.send.result _ _ (λ a. change_came c.args.server.now c.send.new.server _ c.args.names.now (map operation_of c.as_slice.result.now) operations a) c.send.ensures

pub returns-clause-asked : goal.returns-clause-asked
returns-clause-asked c =
    let operations = ap (map operation_of) c.as_slice.ensures.value ∙ c.in_ok-patch.ensures.operations in
    on-ok c.send.result _ _ (λ a. subst (IsAnswered c.args.server.now c.send.new.server _) operations a) c.send.ensures
