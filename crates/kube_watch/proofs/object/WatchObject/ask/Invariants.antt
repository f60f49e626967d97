use Rattle.std.proofs.Common.{◌≡◌, []}
use Rattle.kube_watch.specs.Polls.{api_in}
use Rattle.kube_watch.proofs.Objects.{AllQuiet}
use Rattle.kube_watch.proofs.object.WatchObject.ask.Given as goal

-- so many exchanges were made that gave nothing to answer
abbrev pub invariant-loop-asked : goal.invariant-loop-asked
invariant-loop-asked g l =
    l.fn.self.watcher.waiting ≡ [] → AllQuiet (api_in g.A.ApiMode g.A.Value.Resource.meta_of) l.now.0 l._asked l.fn.self l.self
