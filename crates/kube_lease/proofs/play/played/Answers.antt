use Rattle.std.proofs.Common.{◌<◌, length, get_or, refl, ◌∙◌, arith, drop-cons}
use Rattle.kube_lease.specs.declared.election.LeaseStep.TheVariants.{Tick}
use Rattle.kube_lease.specs.Elections.{beginning, past_of}
use Rattle.kube_lease.proofs.Staging.{played_end, played_next, played_on, sent_short}
use Rattle.kube_lease.proofs.play.played.Goals as goal

pub loop-step-init : goal.loop-step-init
loop-step-init c = record { past = beginning; stage = c.in_ok-stage.ensures.stage; rest = c.requires.valid; comes = refl; upto = refl; asked = c.in_ok-stage.ensures.played }

pub loop-step-preserved : goal.loop-step-preserved
loop-step-preserved c =
    let election = c.args.election.now in
    let i = c.loop-step.step-index in
    let l : i < length election = omega arith in
    played_next c.args.candidates.now election i _ c.loop-step.stage c.take.new.self (get_or election i (Tick 0)) (omega arith) c.loop-step.invariant (drop-cons election i (Tick 0) l)
    c.in_ok-take.ensures.stage c.in_ok-take.ensures.asked

pub take-requires : goal.take-requires
take-requires c =
    let played = c.loop-step.invariant in
    sent_short c.args.candidates.now c.loop-step.stage played.past played.stage

pub returns-clause-lease : goal.returns-clause-lease
returns-clause-lease c =
    let past = past_of c.args.candidates.now c.args.election.now in
    let stage = played_end c.args.candidates.now c.args.election.now c.loop-step.step-index c.loop-step.stage c.loop-step.invariant (omega arith) in
    c.in_ok-lease.ensures past.current stage.serves

pub returns-clause-held : goal.returns-clause-held
returns-clause-held c =
    let stage = played_end c.args.candidates.now c.args.election.now c.loop-step.step-index c.loop-step.stage c.loop-step.invariant (omega arith) in
    stage.serves.holds

pub returns-clause-asked : goal.returns-clause-asked
returns-clause-asked c = played_on c.args.candidates.now c.args.election.now c.loop-step.step-index c.loop-step.stage c.loop-step.invariant (omega arith)

pub returns-clause-candidates : goal.returns-clause-candidates
returns-clause-candidates c =
    let stage = played_end c.args.candidates.now c.args.election.now c.loop-step.step-index c.loop-step.stage c.loop-step.invariant (omega arith) in
    c.from-all.ensures ∙ stage.candidates
