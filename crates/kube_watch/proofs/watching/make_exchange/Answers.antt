use Rattle.std.proofs.Common.{◌≡◌, true, List, Option, Some, inr, subst}
use Rattle.std.specs.Prelude.{Result, OnErr}
use Rattle.kube_model.specs.declared.call.Call.{Call}
use Rattle.kube_model.specs.Raw.{Raw, grown}
use Rattle.kube_model.specs.Recorded.{raw_call}
use Rattle.kube_model.specs.World.{Settings}
use Rattle.kube_model.proofs.Results.{on_err}
use Rattle.kube_watch.specs.Calls.{IsAskedOnce, brings_raw, version_of}
use Rattle.kube_watch.specs.Configs.{settings_of}
use Rattle.kube_watch.proofs.Brings.{brought}
use Rattle.kube_watch.proofs.watching.make_exchange.Goals as goal

-- the call was made, and is all that the talk grew by; its answer brings something
once-made : {V T E : Type 0} (settings : Settings) (asked owed : Call) (old new : Option (List (Raw V))) (raw : Raw V) → raw_call settings asked ≡ Some raw.call → brings_raw raw.answer asked ≡ true → new ≡ grown old raw
    → asked ≡ owed → (r : Result T E) → OnErr r (IsAskedOnce settings owed old new)
once-made settings asked owed old new raw call brings grows is r = on_err r _ (subst (λ k. IsAskedOnce settings k old new) is (inr (raw, call, brings, grows)))

pub returns-in_err-error-clause-lost : goal.returns-in_err-error-clause-lost
returns-in_err-error-clause-lost g c =
    let settings = settings_of c.args.config.now in
    let asked = c.in_ok-answer.ensures.asked in
    once-made settings c.in_ok-call.call _ _ _ asked.0 asked.1.call (brought (version_of g.A.Value.Resource.meta_of) asked.0 _ _ asked.1.answer c.in_err-error.ensures.brings) asked.2 c.in_ok-call.ensures.owed c.from_residual-in_err-error.result

pub returns-in_err-next-clause-lost : goal.returns-in_err-next-clause-lost
returns-in_err-next-clause-lost g c =
    let settings = settings_of c.args.config.now in
    let asked = c.in_ok-answer.ensures.asked in
    once-made settings c.in_ok-call.call _ _ _ asked.0 asked.1.call (brought (version_of g.A.Value.Resource.meta_of) asked.0 _ _ asked.1.answer (c.in_err-next.ensures.brings c.in_ok-call.call)) asked.2 c.in_ok-call.ensures.owed c.from_residual-in_err-next.result
