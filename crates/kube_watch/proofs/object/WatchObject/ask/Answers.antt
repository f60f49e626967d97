use Rattle.std.proofs.Common.{◌≡◌, arith}
use Rattle.kube_model.proofs.Results.{on_err}
use Rattle.kube_watch.specs.Objects.{found_of}
use Rattle.kube_watch.proofs.Objects.{none-made, one-more, ended-found, ended-unready, went-on, ended-spent, lost-quiet}
use Rattle.kube_watch.proofs.object.WatchObject.ask.Goals as goal

pub loop-asked-init : goal.loop-asked-init
loop-asked-init g c none = none-made _ c.args.now.0 c.args.self.now none

pub returns-in-Some-clause-asked : goal.returns-in-Some-clause-asked
returns-in-Some-clause-asked g c none =
    let more = one-more _ c.args.now.0 c.loop-asked._asked c.args.self.now c.loop-asked.self _ c.fill.new.self c.in_ok-ready.ready c.self.view_is (c.loop-asked.invariant none) c.in_ok-ready.ensures.filled in
    ended-found _ c.args.now.0 c.loop-asked._asked c.args.fuel c.args.self.now _ c.take_answer.new.self c.in_ok-ready.ready more
    (found_of c.in-Some.answer) none c.loop-asked-test.true c.in-Some.ensures.first c.take_answer.ensures.watcher c.take_answer.ensures.held

pub returns-then-not-ready-clause-asked : goal.returns-then-not-ready-clause-asked
returns-then-not-ready-clause-asked g c none =
    let more = one-more _ c.args.now.0 c.loop-asked._asked c.args.self.now c.loop-asked.self _ c.fill.new.self c.in_ok-ready.ready c.self.view_is (c.loop-asked.invariant none) c.in_ok-ready.ensures.filled in
    let first = c.in_default.ensures.first in
    ended-unready _ c.args.now.0 c.loop-asked._asked c.args.fuel c.args.self.now _ c.take_answer.new.self c.in_ok-ready.ready more
    none c.loop-asked-test.true first.0 first.1 c.take_answer.ensures.watcher c.take_answer.ensures.held c.if-not-ready.true

pub loop-asked-preserved : goal.loop-asked-preserved
loop-asked-preserved g c none =
    let more = one-more _ c.args.now.0 c.loop-asked._asked c.args.self.now c.loop-asked.self _ c.fill.new.self c.in_ok-ready.ready c.self.view_is (c.loop-asked.invariant none) c.in_ok-ready.ensures.filled in
    let first = c.in_default.ensures.first in
    went-on _ c.args.now.0 c.loop-asked._asked c.args.self.now _ c.take_answer.new.self c.in_ok-ready.ready more
    first.0 first.1 c.take_answer.ensures.watcher c.take_answer.ensures.held c.if-not-ready.false

pub returns-clause-asked : goal.returns-clause-asked
returns-clause-asked g c none =
    let all : c.loop-asked._asked ≡ c.args.fuel = (let a = c.loop-asked.auto._asked-end in let b = c.loop-asked-test.false in omega arith) in
    ended-spent _ c.args.now.0 c.loop-asked._asked c.args.fuel c.args.self.now c.loop-asked.self (c.loop-asked.invariant none) all none

pub returns-in_err-ready-clause-lost : goal.returns-in_err-ready-clause-lost
returns-in_err-ready-clause-lost g c none =
    on_err c.from_residual.result _
    (lost-quiet _ c.args.now.0 c.loop-asked._asked c.args.fuel c.args.self.now c.loop-asked.self _ c.fill.new.self c.self.view_is (c.loop-asked.invariant none) c.loop-asked-test.true c.in_err-ready.ensures.lost)
