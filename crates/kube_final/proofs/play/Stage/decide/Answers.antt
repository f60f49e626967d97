use Rattle.std.proofs.Common.{◌≡◌, ◌++◌, ◌∷◌, [], Some, None, slice_get, ap, sym, subst, ◌∙◌}
use Rattle.std.specs.Arc.{arc_value}
use Rattle.kube_final.specs.Lives.{state_at, with_decision}
use Rattle.kube_final.specs.Playing.{AreMade, there}
use Rattle.kube_final.proofs.Sights.{decided-more, none-seen}
use Rattle.kube_final.proofs.play.Stage.decide.Goals as goal

pub returns-in-None-clause-made : goal.returns-in-None-clause-made
returns-in-None-clause-made c p k t =
    let nothing : there (slice_get c.args.self.now.seen.items c.args.sight) ≡ None = ap (λ os. there (slice_get os c.args.sight)) (sym c.as_slice.ensures.value) ∙ sym c.in-None.ensures in
    absurd (none-seen c.args.self.now.seen.items (p.before ++ p.current ∷ []) c.args.sight k.sights nothing t)

pub returns-clause-made : goal.returns-clause-made
returns-clause-made c p k t =
    let name = c.args.self.now.name in
    let seen : there (slice_get c.args.self.now.seen.items c.args.sight) ≡ Some (arc_value c.in-Some.object.now) = ap (λ os. there (slice_get os c.args.sight)) (sym c.as_slice.ensures.value) ∙ sym c.in-Some.ensures in
    subst (λ ms. AreMade name ms (with_decision name (state_at p c.args.sight) p.decisions)) (sym c.in_ok-push.ensures.items)
    (decided-more name c.args.self.now.seen.items (p.before ++ p.current ∷ []) c.args.sight c.args.self.now.decisions.items p.decisions c.in_ok-made-in-Some.made (arc_value c.in-Some.object.now)
    k.sights k.made seen c.in_ok-made-in-Some.ensures.decision c.in_ok-made-in-Some.ensures.object t)
