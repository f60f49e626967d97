use Rattle.std.proofs.Common.{map, ap, refl, subst, ◌∙◌}
use Rattle.kube_meta.specs.declared.poll.Polled.TheVariants.{Ready}
use Rattle.kube_api.specs.Patches.{operation_of}
use Rattle.kube_api.specs.ObjectTalk.{patch_answer}
use Rattle.kube_server.specs.Servers.{next_revision, held}
use Rattle.kube_server.specs.ObjectCalls.{reference_in, answer_of_patch, IsLeftByPatch}
use Rattle.kube_server.proofs.CallLemmas.{refuses-as, patch-rose}
use Rattle.kube_server.proofs.server_objects.ServerObjectsObjectApi.patch.Goals as goal

pub returns-clause-refused : goal.returns-clause-refused
returns-clause-refused c =
    refuses-as (patch_answer (Ready c.in_ok-given.given))
    (held c.args.self.now.server.now (reference_in c.args.self.now.server.now c.args.self.now.namespace c.args.name.now))
    (next_revision c.args.self.now.server.now) (map operation_of c.args.patch.now)
    (c.in_ok-given.ensures.answer
    ∙ ap (λ k. answer_of_patch (next_revision c.args.self.now.server.now) (map operation_of c.args.patch.now) (held c.args.self.now.server.now k)) c.in_ok-key.ensures.names)

pub returns-clause-faults : goal.returns-clause-faults
returns-clause-faults c =
    patch-rose (patch_answer (Ready c.in_ok-given.given))
    (held c.args.self.now.server.now (reference_in c.args.self.now.server.now c.args.self.now.namespace c.args.name.now))
    (next_revision c.args.self.now.server.now) (map operation_of c.args.patch.now)
    (c.in_ok-given.ensures.answer
    ∙ ap (λ k. answer_of_patch (next_revision c.args.self.now.server.now) (map operation_of c.args.patch.now) (held c.args.self.now.server.now k)) c.in_ok-key.ensures.names)

pub returns-clause-moves : goal.returns-clause-moves
returns-clause-moves c =
    let old = c.args.self.now.server.now in
    let operations = map operation_of c.args.patch.now in (
      record {
        answer = c.in_ok-given.ensures.answer ∙ ap (λ k. answer_of_patch (next_revision old) operations (held old k)) c.in_ok-key.ensures.names;
        left = subst (λ k. IsLeftByPatch old c.patch_server.new.server operations (held old k)) c.in_ok-key.ensures.names c.in_ok-given.ensures.left;
      },
      refl,
      refl,
    )
