use Rattle.std.proofs.Common.{◌≡◌, [], false}
use Rattle.kube_watch.specs.Polls.{api_in}
use Rattle.kube_watch.specs.Stands.{is_spent}
use Rattle.kube_watch.proofs.Polls.{AllQuiet}
use Rattle.kube_watch.proofs.watching.Watcher.ask.Given as goal

-- so many exchanges were made that told nothing
abbrev pub invariant-loop-asked : goal.invariant-loop-asked
invariant-loop-asked g l =
    record {
      quiet : l.fn.self.waiting ≡ [] → AllQuiet (api_in g.A.ApiMode g.A.Value.Resource.meta_of) l.now.0 l._asked l.fn.self l.self;
      unspent : is_spent l.fn.self ≡ false → is_spent l.self ≡ false;
    }
