use Rattle.std.proofs.Common.{◌≡◌, List, [], ◌∷◌, Some, None, map, if◌then◌else◌, refl, sym, ap, ◌∙◌}
use Rattle.std.specs.Arc.{arc_value}
use Rattle.kube_meta.specs.Reference.{Reference}
use Rattle.kube_reflect.specs.Exchanged.{all_keyed}
use Rattle.kube_history.specs.CoreEvents.{cache_of}
use Rattle.kube_step.proofs.turn.shown.Goals as goal

objects-keyed : {O : Type 0} (key : O → Reference) (os : List O) → map (λ (p : Reference × O). p.1) (all_keyed key os) ≡ os
objects-keyed key [] = refl
objects-keyed key (o ∷ os) = ap (λ ps. o ∷ ps) (objects-keyed key os)

pub returns-clause-shown : goal.returns-clause-shown
returns-clause-shown g c world es s =
    ap Some (ap (map arc_value) c.from.ensures ∙ (c.in_ok-state.ensures ∙ (ap (map (λ (p : Reference × _). p.1)) (c.cache.ensures.stands world es s) ∙ objects-keyed world.key (cache_of world es))))
    ∙ ap (λ b. if b then Some (cache_of world es) else None) (sym c.if-not-show.false)
