use Rattle.kube_watch.specs.Watching.{told_of}
use Rattle.kube_watch.proofs.Polls.{given-first}
use Rattle.kube_watch.proofs.watching.Watcher.poll_next.Goals as goal

pub returns-in-Some-clause-polled : goal.returns-in-Some-clause-polled
returns-in-Some-clause-polled g c =
    let first = c.in-Some.ensures in
    given-first _ c.args.now.0 c.args.fuel c.args.self.now c.take_told.new.self (told_of c.in-Some.told) first.0 first.1
