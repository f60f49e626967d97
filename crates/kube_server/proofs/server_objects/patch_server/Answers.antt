use Rattle.std.proofs.Common.{map}
use Rattle.std.specs.Arc.{arc_value}
use Rattle.kube_meta.specs.Resources.{dynamic_reference}
use Rattle.kube_api.specs.Patches.{operation_of}
use Rattle.kube_server.specs.Servers.{next_revision, held}
use Rattle.kube_server.specs.Stored.{change_of}
use Rattle.kube_server.proofs.CallLemmas.{done-answer, done-left, refused-answer, refused-left}
use Rattle.kube_server.proofs.server_objects.patch_server.Goals as goal

pub returns-in_ok-make-in-Ok-clause-left : goal.returns-in_ok-make-in-Ok-clause-left
returns-in_ok-make-in-Ok-clause-left c =
    done-left c.args.server.now _ (held c.args.server.now (dynamic_reference c.args.key.now))
    (map operation_of c.args.patch.now) (change_of c.in-Ok.entry) c.in-Ok.ensures.ok c.in_ok-make-in-Ok.ensures.ok

pub returns-in_ok-refusal-in-Err-clause-answer : goal.returns-in_ok-refusal-in-Err-clause-answer
returns-in_ok-refusal-in-Err-clause-answer c =
    refused-answer (held c.args.server.now (dynamic_reference c.args.key.now)) (next_revision c.args.server.now)
    (map operation_of c.args.patch.now) _ c.in-Err.refusal c.in-Err.ensures.refused c.in_ok-refusal-in-Err.ensures.same c.in_ok-refusal-in-Err.ensures.not_memory

pub returns-in_ok-refusal-in-Err-clause-left : goal.returns-in_ok-refusal-in-Err-clause-left
returns-in_ok-refusal-in-Err-clause-left c =
    refused-left c.args.server.now (held c.args.server.now (dynamic_reference c.args.key.now))
    (map operation_of c.args.patch.now) _ c.in-Err.refusal c.in-Err.ensures.refused c.in_ok-refusal-in-Err.ensures.same c.in_ok-refusal-in-Err.ensures.not_memory
