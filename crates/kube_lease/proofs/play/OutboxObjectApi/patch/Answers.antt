use Rattle.std.proofs.Common.{[], ◌++◌, ◌∷◌, map, refl, ap, ◌∙◌}
use Rattle.std.proofs.lemmas.List.{map-append}
use Rattle.kube_api.specs.Patches.{operation_of}
use Rattle.kube_lease.specs.Staging.{patches_in}
use Rattle.kube_lease.proofs.play.OutboxObjectApi.patch.Goals as goal

pub returns-clause-moves : goal.returns-clause-moves
returns-clause-moves c =
    let kept = ap (map (λ v. map operation_of v.items)) c.in_ok-push.ensures.items
    ∙ map-append (λ v. map operation_of v.items) c.args.self.now.sent.items (c.in_ok-patch.patch ∷ [])
    ∙ ap (λ os. patches_in c.args.self.now ++ os ∷ []) c.in_ok-patch.ensures in
    (refl, kept)
