-- Calls and answers that a scripted API keeps, as plain data. (kube-runtime's recordings of `TestMode`.)
use Rattle.std.specs.Prelude.{List, [], ◌∷◌}
use Rattle.kube_meta.specs.declared.poll.Polled.TheVariants.{Ready}
use Rattle.kube_model.specs.Raw.{RawCall, ListAsked, WatchAsked, NextAsked, RawAnswer, Raw}
use Rattle.kube_api.specs.Answers.{list_answer, watch_answer, next_answer}
use Rattle.kube_api.specs.declared.recording.Recording.{Recording}
use Rattle.kube_api.specs.declared.recording.Recording.TheVariants.{List as ListCall, Watch as WatchCall, Next as NextCall}
use Rattle.kube_api.specs.declared.recording.Answered.{Answered}
use Rattle.kube_api.specs.declared.recording.Answered.TheVariants.{List as ListAnswered, Watch as WatchAnswered, Next as NextAnswered}

abbrev pub call_of : Recording → RawCall
call_of (ListCall params) = ListAsked params
call_of (WatchCall params version) = WatchAsked params version
call_of NextCall = NextAsked

abbrev pub answer_of : {K : Type 0} → Answered K → RawAnswer K
answer_of (ListAnswered page) = list_answer (Ready page)
answer_of (WatchAnswered opened) = watch_answer (Ready opened)
answer_of (NextAnswered event) = next_answer event

-- each call with its answer
abbrev pub talk_of : {K : Type 0} → List Recording → List (Answered K) → List (Raw K)
talk_of (call ∷ calls) (answer ∷ answers) = record { call = call_of call; answer = answer_of answer } ∷ talk_of calls answers
talk_of _ _ = []
