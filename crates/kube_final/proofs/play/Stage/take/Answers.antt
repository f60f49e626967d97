use Rattle.std.proofs.Common.{ap, sym, subst, ◌∙◌}
use Rattle.kube_final.specs.Played.{IsStepAsked}
use Rattle.kube_final.specs.Playing.{stage_reference}
use Rattle.kube_final.proofs.Sights.{stage-taken}
use Rattle.kube_final.proofs.play.Stage.take.Goals as goal

pub returns-clause-stage : goal.returns-clause-stage
returns-clause-stage c p h m =
    stage-taken c.args.self.now c.act.new.self c.note.new.self c.push.new.self c.in_ok-object.object p c.args.step.now c.in_ok-act.ensures.rest c.in_ok-note.ensures.rest c.in_ok-push.ensures.items h m
    c.in_ok-act.ensures.server c.in_ok-note.ensures.made c.in_ok-note.ensures.sent c.in_ok-object.ensures

pub returns-clause-key : goal.returns-clause-key
returns-clause-key c = ap (λ s. stage_reference s) c.in_ok-note.ensures.rest ∙ ap (λ s. stage_reference s) c.in_ok-act.ensures.rest

pub returns-clause-asked : goal.returns-clause-asked
returns-clause-asked c p k m =
    let old = c.args.self.now in
    subst (λ server. IsStepAsked old.name p c.args.step.now (stage_reference old) old.server server) (sym (ap (λ s. s.server) c.in_ok-note.ensures.rest)) (c.in_ok-act.ensures.asked p k m)
