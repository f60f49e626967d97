use Rattle.std.proofs.Common.{ap, sym, subst}
use Rattle.kube_lease.specs.Played.{IsStepAsked}
use Rattle.kube_lease.specs.Staging.{IsDelivered, stage_reference}
use Rattle.kube_lease.specs.declared.election.LeaseStep.TheVariants.{Arrive}
use Rattle.kube_lease.proofs.Staging.{delivery_asked, done_by, refused_by}
use Rattle.kube_lease.proofs.play.Stage.arrive.Goals as goal

pub returns-in_ok-note-in-Some-clause-stage : goal.returns-in_ok-note-in-Some-clause-stage
returns-in_ok-note-in-Some-clause-stage c es p h m =
    let s = c.args.self.now in
    done_by es s c.deliver.new.self c.note.new.self p c.args.send c.in-Some.object h
    (subst (λ o. IsDelivered p c.args.send s.server c.deliver.new.self.server (stage_reference s) o) c.in-Some.is (c.in_ok-made.ensures.made es p h m))
    c.in_ok-made.ensures.rest c.in_ok-note-in-Some.ensures.rest c.in_ok-note-in-Some.ensures.made c.in_ok-note-in-Some.ensures.seen

pub returns-in-None-clause-stage : goal.returns-in-None-clause-stage
returns-in-None-clause-stage c es p h m =
    let s = c.args.self.now in
    refused_by es s c.deliver.new.self p c.args.send h
    (subst (λ o. IsDelivered p c.args.send s.server c.deliver.new.self.server (stage_reference s) o) c.in-None.is (c.in_ok-made.ensures.made es p h m))
    c.in_ok-made.ensures.rest

pub returns-in_ok-note-in-Some-clause-asked : goal.returns-in_ok-note-in-Some-clause-asked
returns-in_ok-note-in-Some-clause-asked c es p h m =
    let s = c.args.self.now in
    subst (λ server. IsStepAsked p (Arrive c.args.send) s.server server) (sym (ap (λ t. t.server) c.in_ok-note-in-Some.ensures.rest))
    (delivery_asked p c.args.send s.server c.deliver.new.self.server (stage_reference s) _ (c.in_ok-made.ensures.made es p h m))

pub returns-in-None-clause-asked : goal.returns-in-None-clause-asked
returns-in-None-clause-asked c es p h m =
    let s = c.args.self.now in
    delivery_asked p c.args.send s.server c.deliver.new.self.server (stage_reference s) _ (c.in_ok-made.ensures.made es p h m)
