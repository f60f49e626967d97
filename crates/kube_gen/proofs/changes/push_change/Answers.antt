use Rattle.std.proofs.Common.{◌≡◌, ◌∙◌, ◌++◌, ◌∷◌, [], ap, map, refl, rules, Ok}
use Rattle.kube_api.specs.declared.sequence.SequenceStep.TheVariants.{List as ListStep, Wait}
use Rattle.kube_api.specs.declared.event.WatchEvent.TheVariants.{Modified}
use Rattle.kube_model.specs.Raw.{GivesModified}
use Rattle.kube_api.specs.Sequences.{given_step}
use Rattle.kube_api.specs.TestScript.{Gives, Pauses}
use Rattle.kube_gen.specs.Generated.{parent_at}
use Rattle.kube_gen.proofs.Steps.{pushed-both}
use Rattle.kube_gen.proofs.changes.push_change.Goals as goal

pub returns : goal.returns
returns c =
    let old = c.args.steps.now.items in
    let events = c.push_back.new.self in
    let said : events.items ≡ Ok (Modified c.in_ok-parent.field-0) ∷ [] = search rules in
    let first : c.push.new.self.items ≡ old ++ Wait 1000000000 ∷ [] = search rules in
    let both : c.push-2.new.self.items ≡ c.push.new.self.items ++ ListStep events ∷ [] = search rules in
    pushed-both old c.push.new.self.items c.push-2.new.self.items (Wait 1000000000) (ListStep events) (Pauses 1000000000) (Gives (GivesModified (parent_at c.args.parent_number c.args.version)))
    first both refl (ap (λ es. map given_step es ++ []) said ∙ ap (λ o. Gives (GivesModified o) ∷ []) c.in_ok-parent.ensures)
