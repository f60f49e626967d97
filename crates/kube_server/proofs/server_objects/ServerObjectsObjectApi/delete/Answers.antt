use Rattle.std.proofs.Common.{ap, refl, subst, ◌∙◌}
use Rattle.kube_server.specs.Servers.{next_revision, held}
use Rattle.kube_server.specs.ObjectCalls.{answer_of_delete, IsLeftByDelete}
use Rattle.kube_server.proofs.server_objects.ServerObjectsObjectApi.delete.Goals as goal

pub returns-clause-moves : goal.returns-clause-moves
returns-clause-moves c =
    let old = c.args.self.now.server.now in
    let now = c.args.now.0 in (
      record {
        answer = c.in_ok-given.ensures.answer ∙ ap (λ k. answer_of_delete (next_revision old) now (held old k)) c.in_ok-key.ensures.names;
        left = subst (λ k. IsLeftByDelete old c.delete_in_server.new.server now (held old k)) c.in_ok-key.ensures.names c.in_ok-given.ensures.left;
      },
      refl,
      refl,
    )
