use Rattle.std.proofs.Common.{◌≡◌, length}
use Rattle.kube_watch.specs.Objects.{answers_in, answers_to, held_by, is_held}
use Rattle.kube_watch.proofs.object.WatchObject.take_answer.Given as goal

-- what was taken gave no answer
abbrev pub invariant-loop-told : goal.invariant-loop-told
invariant-loop-told g l =
    record {
      answers : answers_in l.fn.self ≡ answers_to l.self-inside.held l.self-inside.watcher.waiting;
      watcher : l.self-inside.watcher ≡ record l.fn.self.watcher { waiting = l.self-inside.watcher.waiting };
      held : held_by l.self-inside.held l.self-inside.watcher.waiting ≡ is_held l.fn.self;
    }

abbrev pub decreases-loop-told : goal.decreases-loop-told
decreases-loop-told g l = length l.self-inside.watcher.waiting
