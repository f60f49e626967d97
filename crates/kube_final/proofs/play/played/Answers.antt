use Rattle.std.proofs.Common.{◌≡◌, suc, ◌<◌, ◌∷◌, length, drop, ap, sym, ◌∙◌, arith, drop-cons}
use Rattle.kube_final.specs.Lives.{past_of}
use Rattle.kube_final.proofs.Asking.{played-on, played-so-next}
use Rattle.kube_final.proofs.Sights.{played-end, sent-short}
use Rattle.kube_final.proofs.play.played.Goals as goal

pub loop-step-preserved : goal.loop-step-preserved
loop-step-preserved c =
    let life = c.args.life.now in
    let i = c.loop-step.step-index in
    let step = c.step-item.result in
    let l : i < length life = omega arith in
    let here : drop i life ≡ step ∷ drop (suc i) life = drop-cons life i step l ∙ ap (λ s. s ∷ drop (suc i) life) (sym c.step-item.is) in
    played-so-next c.args.name.now life i _ c.loop-step.stage c.take.new.self step (omega arith) c.loop-step.invariant here c.in_ok-take.ensures.named c.in_ok-take.ensures.stage c.in_ok-take.ensures.key c.in_ok-take.ensures.asked

pub take-requires : goal.take-requires
take-requires c =
    let played = c.loop-step.invariant.played in
    sent-short c.args.name.now played.past.decisions c.loop-step.stage.sent.items played.past.sent played.stage.kept.sent

pub returns-clause-state : goal.returns-clause-state
returns-clause-state c =
    c.in_ok-state.ensures (past_of c.args.name.now c.args.life.now).current
    (played-end c.args.name.now c.args.life.now c.loop-step.step-index c.loop-step.stage c.loop-step.invariant.played (omega arith))

pub returns-clause-server : goal.returns-clause-server
returns-clause-server c = played-on c.args.name.now c.args.life.now c.loop-step.step-index c.loop-step.stage c.loop-step.invariant (omega arith)
