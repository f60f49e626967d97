-- How a talk grows.
use Rattle.std.proofs.Common.{◌≡◌, List, [], ◌∷◌, ◌++◌, length, map, refl, ap}
use Rattle.std.specs.List.{AllByRecursion}
use Rattle.kube_model.specs.Raw.{Raw}
use Rattle.kube_api.specs.declared.recording.Recording.{Recording}
use Rattle.kube_api.specs.declared.recording.Answered.{Answered}
use Rattle.kube_api.specs.Recordings.{call_of, answer_of, talk_of}

-- one more call with its answer stands at the end
pub talk_of-append : {K : Type 0} (calls : List Recording) (answers : List (Answered K)) (call : Recording) (answer : Answered K)
    → length calls ≡ length answers
    → talk_of (calls ++ call ∷ []) (answers ++ answer ∷ []) ≡ talk_of calls answers ++ record { call = call_of call; answer = answer_of answer } ∷ []
talk_of-append [] [] call answer same = refl
talk_of-append [] (a ∷ answers) call answer same = cc
talk_of-append (c ∷ calls) [] call answer same = cc
talk_of-append (c ∷ calls) (a ∷ answers) call answer same =
    ap (λ talk. record { call = call_of c; answer = answer_of a } ∷ talk) (talk_of-append calls answers call answer (cc))

-- what holds of all holds of those before the last
pub All-front : {X : Type 0} (P : X → Type 0) (xs : List X) (x : X) → AllByRecursion P (xs ++ x ∷ []) → AllByRecursion P xs
All-front P [] x all = tt
All-front P (y ∷ ys) x all = (all.0, All-front P ys x all.1)

-- the calls of a talk
pub call-talk_of : {K : Type 0} (calls : List Recording) (answers : List (Answered K)) → length calls ≡ length answers
    → map call_of calls ≡ map (λ (raw : Raw K). raw.call) (talk_of calls answers)
call-talk_of [] [] same = refl
call-talk_of [] (a ∷ answers) same = cc
call-talk_of (c ∷ calls) [] same = cc
call-talk_of (c ∷ calls) (a ∷ answers) same = ap (λ all. call_of c ∷ all) (call-talk_of calls answers (cc))
