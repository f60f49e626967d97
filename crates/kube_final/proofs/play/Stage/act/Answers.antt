use Rattle.std.proofs.Common.{◌≡◌, ◌<◌, ◌^◌, length, Some, None, slice_get, map, true, ap, sym, subst, ◌∙◌}
use Rattle.kube_api.specs.Patches.{operation_of}
use Rattle.kube_final.specs.Lives.{may_follow, state_after}
use Rattle.kube_final.specs.Finalizers.{replacement}
use Rattle.kube_final.specs.Playing.{IsAnswered, IsPatchOf, Serves, stage_reference}
use Rattle.kube_final.specs.Played.{IsStepAsked}
use Rattle.kube_final.proofs.Asking.{asked-as}
use Rattle.kube_final.proofs.Sights.{arrived-as, none-arrives, on-ok, sent-there, short-there}
use Rattle.kube_final.proofs.play.Stage.act.Goals as goal

pub returns-in-Some-clause-server : goal.returns-in-Some-clause-server
returns-in-Some-clause-server c =
    let name = c.args.self.now.name in
    let r = stage_reference c.args.self.now in
    let there : slice_get c.args.self.now.sent.items c.in-Arrive.send ≡ Some c.in-Some.patch.now = ap (λ vs. slice_get vs c.in-Arrive.send) (sym c.as_slice-in-Arrive.ensures.value) ∙ sym c.in-Some.ensures in
    on-ok c.arrive.result _ _ (λ f p s m.
    let sent = sent-there name p.decisions c.args.self.now.sent.items p.sent c.in-Arrive.send c.in-Some.patch.now s.kept.sent there in
    let patch = subst (λ os. IsPatchOf name (map operation_of os) (slice_get p.decisions sent.0)) (sym c.as_slice-in-Some.ensures.value) sent.2 in
    subst (λ step. Serves c.arrive.new.server r (state_after name p step)) (sym c.in-Arrive.is)
    (arrived-as c.arrive.new.server r name p (map operation_of c.as_slice-in-Some.result.now) c.in-Arrive.send sent.0 sent.1 patch (λ d k. f name p.current d k s.serves)))
    c.arrive.ensures.serves

pub returns-in-None-clause-server : goal.returns-in-None-clause-server
returns-in-None-clause-server c p s m =
    let name = c.args.self.now.name in
    let nothing : slice_get c.args.self.now.sent.items c.in-Arrive.send ≡ None = ap (λ vs. slice_get vs c.in-Arrive.send) (sym c.as_slice-in-Arrive.ensures.value) ∙ sym c.in-None.ensures in
    absurd (none-arrives name p c.args.self.now.sent.items c.in-Arrive.send s.kept.sent nothing (subst (λ step. may_follow name p step ≡ true) c.in-Arrive.is m))

pub returns-in-Some-clause-asked : goal.returns-in-Some-clause-asked
returns-in-Some-clause-asked c =
    let name = c.args.self.now.name in
    let r = stage_reference c.args.self.now in
    let there : slice_get c.args.self.now.sent.items c.in-Arrive.send ≡ Some c.in-Some.patch.now = ap (λ vs. slice_get vs c.in-Arrive.send) (sym c.as_slice-in-Arrive.ensures.value) ∙ sym c.in-Some.ensures in
    on-ok c.arrive.result _ _ (λ f p k m.
    let sent = sent-there name p.decisions c.args.self.now.sent.items p.sent c.in-Arrive.send c.in-Some.patch.now k.sent there in
    let patch = subst (λ os. IsPatchOf name (map operation_of os) (slice_get p.decisions sent.0)) (sym c.as_slice-in-Some.ensures.value) sent.2 in
    subst (λ step. IsStepAsked name p step r c.args.self.now.server c.arrive.new.server) (sym c.in-Arrive.is)
    (asked-as c.args.self.now.server c.arrive.new.server r name p (map operation_of c.as_slice-in-Some.result.now) c.in-Arrive.send sent.0 sent.1 patch (λ d q. f name d q)))
    c.arrive.ensures.asked

pub returns-in-None-clause-asked : goal.returns-in-None-clause-asked
returns-in-None-clause-asked c p k m =
    let name = c.args.self.now.name in
    let nothing : slice_get c.args.self.now.sent.items c.in-Arrive.send ≡ None = ap (λ vs. slice_get vs c.in-Arrive.send) (sym c.as_slice-in-Arrive.ensures.value) ∙ sym c.in-None.ensures in
    absurd (none-arrives name p c.args.self.now.sent.items c.in-Arrive.send k.sent nothing (subst (λ step. may_follow name p step ≡ true) c.in-Arrive.is m))

pub arrive-requires : goal.arrive-requires
arrive-requires c =
    let there : slice_get c.args.self.now.sent.items c.in-Arrive.send ≡ Some c.in-Some.patch.now = ap (λ vs. slice_get vs c.in-Arrive.send) (sym c.as_slice-in-Arrive.ensures.value) ∙ sym c.in-Some.ensures in
    subst (λ os. length os < 2 ^ 32) (sym c.as_slice-in-Some.ensures.value) (short-there c.args.self.now.sent.items c.in-Arrive.send c.in-Some.patch.now c.requires there)

pub returns-in-Other-clause-asked : goal.returns-in-Other-clause-asked
returns-in-Other-clause-asked c =
    let name = c.args.self.now.name in
    let r = stage_reference c.args.self.now in
    on-ok c.change.result _ _ (λ a p k m.
    subst (λ step. IsStepAsked name p step r c.args.self.now.server c.change.new.server) (sym c.in-Other.is)
    (subst (λ names. IsAnswered c.args.self.now.server c.change.new.server r (replacement names)) c.as_slice.ensures a))
    c.change.ensures.asked
