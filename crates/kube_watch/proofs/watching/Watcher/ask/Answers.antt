use Rattle.std.proofs.Common.{◌≡◌, false, sym, subst, arith}
use Rattle.kube_model.proofs.Results.{on_err}
use Rattle.kube_watch.specs.Stands.{is_spent}
use Rattle.kube_watch.specs.Watching.{told_of}
use Rattle.kube_watch.proofs.Polls.{none-made, one-more, ended-told, ended-unready, went-on, ended-spent, lost-quiet}
use Rattle.kube_watch.proofs.watching.Watcher.ask.Goals as goal

pub loop-asked-init : goal.loop-asked-init
loop-asked-init g c = record { quiet = λ none. none-made _ c.args.now.0 c.args.self.now none; unspent = λ unspent. unspent }

pub returns-in-Some-clause-asked : goal.returns-in-Some-clause-asked
returns-in-Some-clause-asked g c none =
    let first = c.in-Some.ensures in
    ended-told _ c.args.now.0 c.loop-asked._asked c.args.fuel c.args.self.now c.fill.new.self c.take_told.new.self c.in_ok-ready.ready
    (one-more _ c.args.now.0 c.loop-asked._asked c.args.self.now c.loop-asked.self c.fill.new.self c.in_ok-ready.ready (c.loop-asked.invariant.quiet none) c.in_ok-ready.ensures.filled)
    (told_of c.in-Some.told) none c.loop-asked-test.true first.0 first.1

pub returns-then-not-ready-clause-asked : goal.returns-then-not-ready-clause-asked
returns-then-not-ready-clause-asked g c none =
    let same = c.in_default.ensures in
    ended-unready _ c.args.now.0 c.loop-asked._asked c.args.fuel c.args.self.now c.fill.new.self c.take_told.new.self c.in_ok-ready.ready
    (one-more _ c.args.now.0 c.loop-asked._asked c.args.self.now c.loop-asked.self c.fill.new.self c.in_ok-ready.ready (c.loop-asked.invariant.quiet none) c.in_ok-ready.ensures.filled)
    none c.loop-asked-test.true same.0 same.1 c.if-not-ready.true

pub loop-asked-preserved : goal.loop-asked-preserved
loop-asked-preserved g c =
    let same = c.in_default.ensures in
    record {
      quiet = λ none.
          went-on _ c.args.now.0 c.loop-asked._asked c.args.self.now c.fill.new.self c.take_told.new.self c.in_ok-ready.ready
          (one-more _ c.args.now.0 c.loop-asked._asked c.args.self.now c.loop-asked.self c.fill.new.self c.in_ok-ready.ready (c.loop-asked.invariant.quiet none) c.in_ok-ready.ensures.filled)
          same.0 same.1 c.if-not-ready.false;
      unspent = λ unspent. subst (λ w. is_spent w ≡ false) (sym same.1) c.in_ok-ready.ensures.unspent;
    }

pub returns-clause-unspent : goal.returns-clause-unspent
returns-clause-unspent g c unspent = c.loop-asked.invariant.unspent unspent

pub returns-in_err-ready-clause-lost : goal.returns-in_err-ready-clause-lost
returns-in_err-ready-clause-lost g c none =
    on_err c.from_residual.result _
    (lost-quiet _ c.args.now.0 c.loop-asked._asked c.args.fuel c.args.self.now c.loop-asked.self c.fill.new.self (c.loop-asked.invariant.quiet none) c.loop-asked-test.true none c.in_err-ready.ensures.lost)

pub returns-clause-asked : goal.returns-clause-asked
returns-clause-asked g c none =
    let all : c.loop-asked._asked ≡ c.args.fuel = (let a = c.loop-asked.auto._asked-end in let b = c.loop-asked-test.false in omega arith) in
    ended-spent _ c.args.now.0 c.loop-asked._asked c.args.fuel c.args.self.now c.loop-asked.self (c.loop-asked.invariant.quiet none) all none
