use Rattle.std.proofs.Common.{[], ◌∷◌, ◌++◌, ap, ◌∙◌, append-nil}
use Rattle.kube_history.specs.CoreEvents.{queue_by, queue_of}
use Rattle.kube_history.proofs.Segments.{queue-append, answers-append}
use Rattle.kube_history.proofs.laws.one_more_event.Goals as goal

pub returns-clause-queue : goal.returns-clause-queue
returns-clause-queue g c core es e = queue-append core [] es (e ∷ []) ∙ ap (λ us. queue_of core es ++ us) (append-nil (queue_by core es e))

pub returns-clause-answers : goal.returns-clause-answers
returns-clause-answers g c es e = answers-append es (e ∷ [])
