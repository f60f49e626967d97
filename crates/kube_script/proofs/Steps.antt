-- The steps of a watch, one after the other.
use Rattle.std.proofs.Common.{◌≡◌, List, [], ◌∷◌, ◌++◌, map, refl, ap, ◌∙◌, append-nil, Result}
use Rattle.kube_meta.specs.Reading.{ObjectData}
use Rattle.kube_api.specs.Sequences.{steps_of}
use Rattle.kube_api.specs.TestScript.{Gives}
use Rattle.kube_api.specs.declared.event.WatchEvent.{WatchEvent}
use Rattle.kube_api.specs.declared.sequence.SequenceStep.{SequenceStep}
use Rattle.kube_model.specs.declared.error.ApiError.{ApiError}
use Rattle.kube_api.specs.declared.sequence.SequenceStep.TheVariants.{List as ListStep, Wait}
use Rattle.kube_api.specs.Sequences.{given_step}
use Rattle.kube_script.specs.Script.{joined}
use Rattle.kube_script.specs.SeenSource.{seen_event, seen_step}

pub joined_steps : (steps : List (SequenceStep ObjectData)) → joined (map seen_step steps) ≡ steps_of steps
joined_steps [] = refl
joined_steps (ListStep events ∷ rest) = ap (λ xs. xs ++ joined (map seen_step rest)) (append-nil (map given_step events.items)) ∙ ap (λ xs. map given_step events.items ++ xs) (joined_steps rest)
joined_steps (Wait nanos ∷ rest) = ap (λ xs. steps_of (Wait nanos ∷ []) ++ xs) (joined_steps rest)

pub events_in_order : (es : List (Result (WatchEvent ObjectData) ApiError)) → map given_step es ++ [] ≡ map Gives (map seen_event es)
events_in_order [] = refl
events_in_order (e ∷ es) = ap (λ xs. given_step e ∷ xs) (events_in_order es)
