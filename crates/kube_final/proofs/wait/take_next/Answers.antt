use Rattle.kube_watch.specs.Objects.{found_of, next_found}
use Rattle.kube_final.proofs.WaitLaws.{never, not_spent, quiet_next, stands_on, standing, taken_item, taken_none}
use Rattle.kube_final.proofs.WaitLosses.{lost_spent, whatever_came}
use Rattle.kube_final.proofs.wait.take_next.Goals as goal

pub returns-in-Item-clause-taken : goal.returns-in-Item-clause-taken
returns-in-Item-clause-taken g c =
    let unspent = not_spent c.args.watch.now.watcher.is_spent (λ s. (c.in_ok-answer.ensures.spent s).0) in
    taken_item _ c.args.now.0 c.args.watch.now (found_of c.in-Item.answer) c.poll_next.new.self (standing c.args.watch.now unspent c.requires.live)
    (rw c.in-Item.is at c.in_ok-answer.ensures.polled)

pub returns-in-Item-clause-live : goal.returns-in-Item-clause-live
returns-in-Item-clause-live g c =
    let unspent = not_spent c.args.watch.now.watcher.is_spent (λ s. (c.in_ok-answer.ensures.spent s).0) in
    let polled = c.in_ok-answer.ensures.polled in
    stands_on c.args.watch.now c.poll_next.new.self _ polled.exchanged.stands (standing c.args.watch.now unspent c.requires.live)

pub returns-in-NotReady : goal.returns-in-NotReady
returns-in-NotReady g c =
    let unspent = not_spent c.args.watch.now.watcher.is_spent (λ s. (c.in_ok-answer.ensures.spent s).0) in
    let polled = c.in_ok-answer.ensures.polled in
    let stands = standing c.args.watch.now unspent c.requires.live in
    record {
      taken = taken_none _ c.args.now.0 c.args.watch.now (next_found c.in_ok-answer.field-0) c.poll_next.new.self (quiet_next c.in_ok-answer.field-0 c.in-NotReady.is) stands polled;
      live = stands_on c.args.watch.now c.poll_next.new.self _ polled.exchanged.stands stands;
      err = tt;
      lost = tt;
      unspent = unspent;
      spent = λ s. never ((c.in_ok-answer.ensures.spent s).0);
    }

pub returns-in_err-answer-clause-lost : goal.returns-in_err-answer-clause-lost
returns-in_err-answer-clause-lost g c = whatever_came c.from_residual.result _ (lost_spent _ c.args.now.0 c.args.watch.now c.poll_next.new.self c.in_err-answer.ensures.err c.in_err-answer.ensures.lost)
