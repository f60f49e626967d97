use Rattle.std.proofs.Common.{◌≡◌, ◌++◌, ◌∷◌, [], Some, None, slice_get, ap, sym, subst, ◌∙◌}
use Rattle.kube_final.specs.Playing.{AreSent}
use Rattle.kube_final.proofs.Sights.{none-made, patch-sent}
use Rattle.kube_final.proofs.play.Stage.send.Goals as goal

pub returns-in-None-clause-sent : goal.returns-in-None-clause-sent
returns-in-None-clause-sent c p k t =
    let nothing : slice_get c.args.self.now.decisions.items c.args.decision ≡ None = ap (λ ms. slice_get ms c.args.decision) (sym c.as_slice.ensures.value) ∙ sym c.in-None.ensures in
    absurd (none-made c.args.self.now.name c.args.self.now.decisions.items p.decisions c.args.decision k.made nothing t)

pub returns-clause-sent : goal.returns-clause-sent
returns-clause-sent c p k t =
    let name = c.args.self.now.name in
    let made : slice_get c.args.self.now.decisions.items c.args.decision ≡ Some c.in-Some.made.now = ap (λ ms. slice_get ms c.args.decision) (sym c.as_slice.ensures.value) ∙ sym c.in-Some.ensures in
    subst (λ vs. AreSent name p.decisions vs (p.sent ++ c.args.decision ∷ [])) (sym c.in_ok-push.ensures.items)
    (patch-sent name c.args.self.now.decisions.items p.decisions c.args.self.now.sent.items p.sent c.args.decision c.in-Some.made.now c.in_ok-patch-in-Some.patch k.made k.sent made c.in_ok-patch-in-Some.ensures t)
