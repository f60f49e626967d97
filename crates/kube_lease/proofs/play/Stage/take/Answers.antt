use Rattle.std.proofs.Common.{◌≡◌, true, sym, subst}
use Rattle.std.proofs.lemmas.Result.{on_ok_weaker}
use Rattle.kube_lease.specs.Elections.{after, may_follow}
use Rattle.kube_lease.specs.Played.{IsStepAsked}
use Rattle.kube_lease.specs.Staging.{IsStage}
use Rattle.kube_lease.proofs.play.Stage.take.Goals as goal

pub returns-in-Tick-clause-stage : goal.returns-in-Tick-clause-stage
returns-in-Tick-clause-stage c es p h m =
    subst (λ step. IsStage es c.tick.new.self (after es p step)) (sym c.in-Tick.is) (c.tick.ensures.stage es p h (subst (λ step. may_follow es p step ≡ true) c.in-Tick.is m))

pub returns-in-Tick-clause-asked : goal.returns-in-Tick-clause-asked
returns-in-Tick-clause-asked c es p h m = subst (λ step. IsStepAsked p step c.args.self.now.server c.tick.new.self.server) (sym c.in-Tick.is) c.tick.ensures.server

pub returns-in-Observe-clause-stage : goal.returns-in-Observe-clause-stage
returns-in-Observe-clause-stage c = on_ok_weaker c.observe_state.result (λ f es p h m.
    subst (λ step. IsStage es c.observe_state.new.self (after es p step)) (sym c.in-Observe.is) (f es p h (subst (λ step. may_follow es p step ≡ true) c.in-Observe.is m))) c.observe_state.ensures.stage

pub returns-in-Observe-clause-asked : goal.returns-in-Observe-clause-asked
returns-in-Observe-clause-asked c = on_ok_weaker c.observe_state.result (λ f es p h m.
    subst (λ step. IsStepAsked p step c.args.self.now.server c.observe_state.new.self.server) (sym c.in-Observe.is) f) c.observe_state.ensures.server

pub returns-in-Send-clause-stage : goal.returns-in-Send-clause-stage
returns-in-Send-clause-stage c = on_ok_weaker c.send.result (λ f es p h m. subst (λ step. IsStage es c.send.new.self (after es p step)) (sym c.in-Send.is) (f es p h)) c.send.ensures.stage

pub returns-in-Send-clause-asked : goal.returns-in-Send-clause-asked
returns-in-Send-clause-asked c = on_ok_weaker c.send.result (λ f es p h m. subst (λ step. IsStepAsked p step c.args.self.now.server c.send.new.self.server) (sym c.in-Send.is) f) c.send.ensures.server

pub returns-in-Arrive-clause-stage : goal.returns-in-Arrive-clause-stage
returns-in-Arrive-clause-stage c = on_ok_weaker c.arrive.result (λ f es p h m.
    subst (λ step. IsStage es c.arrive.new.self (after es p step)) (sym c.in-Arrive.is) (f es p h (subst (λ step. may_follow es p step ≡ true) c.in-Arrive.is m))) c.arrive.ensures.stage

pub returns-in-Arrive-clause-asked : goal.returns-in-Arrive-clause-asked
returns-in-Arrive-clause-asked c = on_ok_weaker c.arrive.result (λ f es p h m.
    subst (λ step. IsStepAsked p step c.args.self.now.server c.arrive.new.self.server) (sym c.in-Arrive.is) (f es p h (subst (λ step. may_follow es p step ≡ true) c.in-Arrive.is m))) c.arrive.ensures.asked

pub returns-in-Reply-clause-stage : goal.returns-in-Reply-clause-stage
returns-in-Reply-clause-stage c = on_ok_weaker c.reply.result (λ f es p h m.
    subst (λ step. IsStage es c.reply.new.self (after es p step)) (sym c.in-Reply.is) (f es p h (subst (λ step. may_follow es p step ≡ true) c.in-Reply.is m))) c.reply.ensures.stage

pub returns-in-Reply-clause-asked : goal.returns-in-Reply-clause-asked
returns-in-Reply-clause-asked c = on_ok_weaker c.reply.result (λ f es p h m. subst (λ step. IsStepAsked p step c.args.self.now.server c.reply.new.self.server) (sym c.in-Reply.is) f) c.reply.ensures.server
