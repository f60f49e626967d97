use Rattle.std.proofs.Common.{replicate, Ok}
use Rattle.kube_meta.specs.declared.poll.Next.TheVariants.{Spent}
use Rattle.kube_watch.specs.Asking.{Polls, Said}
use Rattle.kube_watch.proofs.stream.ask.Given as goal

-- so many polls gave nothing
abbrev pub invariant-loop-idle : goal.invariant-loop-idle
invariant-loop-idle g l =
    record {
      may : g.S.EventStream.can_poll l.stream;
      polled : Polls (Said g.S.EventStream.polls g.S.EventStream.told) l.now.0 l.fn.stream (replicate l._idle (Ok Spent)) l.stream;
    }
