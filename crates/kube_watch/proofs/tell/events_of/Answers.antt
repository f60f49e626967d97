use Rattle.std.proofs.Common.{map}
use Rattle.std.proofs.lemmas.Result.{IfOk-weaker}
use Rattle.std.specs.Arc.{arc_value}
use Rattle.kube_watch.proofs.tell.events_of.Goals as goal

pub returns-in-Watch-clause-told : goal.returns-in-Watch-clause-told
returns-in-Watch-clause-told g c =
    IfOk-weaker c.watch_events.result _ _
    (λ es h settings kept. rw c.in-Watch.is (h settings kept c.in-Watch.version (map arc_value c.args.items.now) c.args.initial))
    c.watch_events.ensures.told
