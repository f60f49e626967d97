use Rattle.std.proofs.Common.{Some, None}
use Rattle.kube_watch.specs.Objects.{found_of}
use Rattle.kube_final.specs.Waits.{probed}
use Rattle.kube_final.proofs.WaitLaws.{asked_item, asked_not_ready, asked_over, asked_spent, asked_then, never, not_spent, stands_on, standing}
use Rattle.kube_final.proofs.WaitLosses.{left_standing}
use Rattle.kube_final.proofs.wait.ask_end.Goals as goal

pub returns-then-ends-clause-asked : goal.returns-then-ends-clause-asked
returns-then-ends-clause-asked g c =
    rw c.probed.ensures (asked_item _ (g.C.Condition.says c.args.condition.now) c.args.now.0 c.args.watch.now (found_of c.in-Item.answer) c.poll_next.new.self c.if-ends.ensures (rw c.in-Item.is at c.in_ok-answer.ensures.polled))

pub returns-then-ends-clause-live : goal.returns-then-ends-clause-live
returns-then-ends-clause-live g c =
    let unspent = not_spent c.args.watch.now.watcher.is_spent (λ s. (c.in_ok-answer.ensures.spent s).0) in
    let polled = c.in_ok-answer.ensures.polled in
    stands_on c.args.watch.now c.poll_next.new.self _ polled.exchanged.stands (standing c.args.watch.now unspent c.requires.live)

pub returns-in-NotReady-clause-asked : goal.returns-in-NotReady-clause-asked
returns-in-NotReady-clause-asked g c =
    asked_not_ready _ (g.C.Condition.says c.args.condition.now) c.args.now.0 c.args.watch.now c.poll_next.new.self (rw c.in-NotReady.is at c.in_ok-answer.ensures.polled)

pub returns-in-NotReady-clause-live : goal.returns-in-NotReady-clause-live
returns-in-NotReady-clause-live g c =
    let unspent = not_spent c.args.watch.now.watcher.is_spent (λ s. (c.in_ok-answer.ensures.spent s).0) in
    let polled = c.in_ok-answer.ensures.polled in
    stands_on c.args.watch.now c.poll_next.new.self _ polled.exchanged.stands (standing c.args.watch.now unspent c.requires.live)

pub returns-in-Spent-clause-asked : goal.returns-in-Spent-clause-asked
returns-in-Spent-clause-asked g c =
    asked_spent _ (g.C.Condition.says c.args.condition.now) c.args.now.0 c.args.watch.now c.poll_next.new.self (rw c.in-Spent.is at c.in_ok-answer.ensures.polled)

pub returns-in-Spent-clause-live : goal.returns-in-Spent-clause-live
returns-in-Spent-clause-live g c =
    let unspent = not_spent c.args.watch.now.watcher.is_spent (λ s. (c.in_ok-answer.ensures.spent s).0) in
    let polled = c.in_ok-answer.ensures.polled in
    stands_on c.args.watch.now c.poll_next.new.self _ polled.exchanged.stands (standing c.args.watch.now unspent c.requires.live)

pub returns-in-End-clause-asked : goal.returns-in-End-clause-asked
returns-in-End-clause-asked g c =
    asked_over _ (g.C.Condition.says c.args.condition.now) c.args.now.0 c.args.watch.now c.poll_next.new.self (rw c.in-End.is at c.in_ok-answer.ensures.polled)

pub returns-in-End-clause-live : goal.returns-in-End-clause-live
returns-in-End-clause-live g c =
    let unspent = not_spent c.args.watch.now.watcher.is_spent (λ s. (c.in_ok-answer.ensures.spent s).0) in
    let polled = c.in_ok-answer.ensures.polled in
    stands_on c.args.watch.now c.poll_next.new.self _ polled.exchanged.stands (standing c.args.watch.now unspent c.requires.live)

pub take_end-requires-clause-live : goal.take_end-requires-clause-live
take_end-requires-clause-live g c =
    let unspent = not_spent c.args.watch.now.watcher.is_spent (λ s. (c.in_ok-answer.ensures.spent s).0) in
    let polled = c.in_ok-answer.ensures.polled in
    stands_on c.args.watch.now c.poll_next.new.self _ polled.exchanged.stands (standing c.args.watch.now unspent c.requires.live)

pub returns-in-Some-clause-asked : goal.returns-in-Some-clause-asked
returns-in-Some-clause-asked g c =
    asked_then _ (g.C.Condition.says c.args.condition.now) c.args.now.0 c.args.watch.now c.poll_next.new.self (found_of c.in-Item.answer) (Some (probed c.in-Some.answer)) c.take_end.new.watch
    c.if-ends.ensures (rw c.in-Item.is at c.in_ok-answer.ensures.polled) (rw c.in-Some.is at c.in_ok-answer-2.ensures.taken)

pub returns-in-None-clause-asked : goal.returns-in-None-clause-asked
returns-in-None-clause-asked g c =
    asked_then _ (g.C.Condition.says c.args.condition.now) c.args.now.0 c.args.watch.now c.poll_next.new.self (found_of c.in-Item.answer) None c.take_end.new.watch
    c.if-ends.ensures (rw c.in-Item.is at c.in_ok-answer.ensures.polled) (rw c.in-None.is at c.in_ok-answer-2.ensures.taken)

pub returns-in_err-answer-2-clause-lost : goal.returns-in_err-answer-2-clause-lost
returns-in_err-answer-2-clause-lost g c =
    let unspent = not_spent c.args.watch.now.watcher.is_spent (λ s. (c.in_ok-answer.ensures.spent s).0) in
    never (left_standing c.args.watch.now c.poll_next.new.self _ c.in_ok-answer.ensures.polled.exchanged.stands (standing c.args.watch.now unspent c.requires.live) c.in_err-answer-2.ensures.lost)
