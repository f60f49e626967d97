-- The steps of a scripted watch, as plain data. (kube-runtime's `TestMode` of its watcher tests.)
use Rattle.std.specs.Prelude.{List, [], ◌∷◌, ◌++◌, map, Some, Result}
use Rattle.kube_meta.specs.declared.poll.Polled.TheVariants.{Ready}
use Rattle.kube_model.specs.declared.error.ApiError.{ApiError}
use Rattle.kube_api.specs.declared.event.WatchEvent.{WatchEvent}
use Rattle.kube_api.specs.declared.sequence.SequenceStep.{SequenceStep}
use Rattle.kube_api.specs.declared.sequence.SequenceStep.TheVariants.{List as ListStep, Wait}
use Rattle.kube_api.specs.Answers.{next_answer}
use Rattle.kube_api.specs.TestScript.{Step, Gives, Pauses}

abbrev pub given_step : {K : Type 0} → Result (WatchEvent K) ApiError → Step K
given_step event = Gives (next_answer (Ready (Some event)))

-- an empty list of events gives nothing
abbrev pub steps_of : {K : Type 0} → List (SequenceStep K) → List (Step K)
steps_of [] = []
steps_of (ListStep events ∷ rest) = map given_step events.items ++ steps_of rest
steps_of (Wait nanos ∷ rest) = Pauses nanos ∷ steps_of rest
