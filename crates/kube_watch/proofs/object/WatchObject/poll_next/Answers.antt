use Rattle.std.proofs.lemmas.Result.{on_err_weaker}
use Rattle.kube_watch.specs.Objects.{found_of}
use Rattle.kube_watch.proofs.Objects.{given-first, lost-taken}
use Rattle.kube_watch.proofs.object.WatchObject.poll_next.Goals as goal

pub returns-in-Some-clause-polled : goal.returns-in-Some-clause-polled
returns-in-Some-clause-polled g c =
    given-first _ c.args.now.0 c.args.fuel c.args.self.now c.take_answer.new.self (found_of c.in-Some.answer) c.in-Some.ensures.first c.take_answer.ensures.watcher c.take_answer.ensures.held

pub returns-in-None-clause-lost : goal.returns-in-None-clause-lost
returns-in-None-clause-lost g c =
    on_err_weaker c.ask.result
    (lost-taken _ c.args.now.0 c.args.fuel c.args.self.now c.take_answer.new.self c.ask.new.self c.in-None.ensures.first.0 c.take_answer.ensures.watcher c.take_answer.ensures.held)
    (c.ask.ensures.lost c.in-None.ensures.first.1)
