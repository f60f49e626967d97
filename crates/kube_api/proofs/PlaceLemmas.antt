-- The events of a step, read at an index.
use Rattle.std.proofs.Common.{◌≡◌, ℕ, zero, suc, ◌+◌, ◌<◌, List, [], ◌∷◌, ◌++◌, map, drop, length, get_or, Some, None, refl, ap, sym, ◌∙◌, add-one, arith}
use Rattle.std.specs.Prelude.{Result}
use Rattle.kube_meta.specs.declared.poll.Polled.TheVariants.{Ready}
use Rattle.kube_model.specs.declared.error.ApiError.{ApiError}
use Rattle.kube_api.specs.declared.event.WatchEvent.{WatchEvent}
use Rattle.kube_api.specs.Answers.{next_answer}
use Rattle.kube_api.specs.TestScript.{Step, just_opened, poll_steps}
use Rattle.kube_api.specs.Sequences.{given_step}

-- a poll gives the event at the index
pub answer-drop : {K : Type 0} (now : ℕ) (events : List (Result (WatchEvent K) ApiError)) (i : ℕ) (rest : List (Step K)) (e : Result (WatchEvent K) ApiError)
    → i < length events → e ≡ get_or events i e
    → (poll_steps now None (drop i (map given_step events) ++ rest)).answer ≡ next_answer (Ready (Some e))
answer-drop now [] i rest e below read = absurd (omega arith)
answer-drop now (x ∷ xs) zero rest e below read = ap (λ y. next_answer (Ready (Some y))) (sym read)
answer-drop now (x ∷ xs) (suc i) rest e below read = answer-drop now xs i rest e (omega arith) read

-- those after it are left
pub left-drop : {K : Type 0} (now : ℕ) (events : List (Result (WatchEvent K) ApiError)) (i : ℕ) (rest : List (Step K))
    → i < length events
    → (poll_steps now None (drop i (map given_step events) ++ rest)).left ≡ just_opened (drop (i + 1) (map given_step events) ++ rest)
left-drop now [] i rest below = absurd (omega arith)
left-drop now (x ∷ xs) zero rest below = refl
left-drop now (x ∷ xs) (suc i) rest below = rw (add-one) (left-drop now xs i rest (omega arith) ∙ (rw (add-one) refl))
