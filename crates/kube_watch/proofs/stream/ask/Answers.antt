use Rattle.std.proofs.Common.{◌∙◌, sym, arith, replicate, Ok}
use Rattle.kube_meta.specs.declared.poll.Next.TheVariants.{Spent}
use Rattle.kube_watch.specs.Asking.{Said}
use Rattle.kube_watch.proofs.Asking.{polls-push, polls-idle, gave-nothing, not-spent}
use Rattle.kube_watch.proofs.stream.ask.Goals as goal

pub returns-then-gives_something-clause-asked : goal.returns-then-gives_something-clause-asked
returns-then-gives_something-clause-asked g c = record {
  idle = c.loop-idle._idle;
  polled = polls-push (Said g.S.EventStream.polls g.S.EventStream.told) c.args.now.0 c.args.stream.now c.loop-idle.stream c.poll_next-answer.new.self (replicate c.loop-idle._idle (Ok Spent)) c.poll_next-answer.result c.loop-idle.invariant.polled (c.poll_next-answer.ensures.polls, c.poll_next-answer.ensures.told);
  few = omega arith;
  spent = not-spent c.poll_next-answer.result (sym c.gives_something.ensures ∙ c.if-gives_something.true);
}

pub loop-idle-preserved : goal.loop-idle-preserved
loop-idle-preserved g c = record {
  may = c.poll_next-answer.ensures.may;
  polled = polls-idle (Said g.S.EventStream.polls g.S.EventStream.told) c.args.now.0 c.args.stream.now c.loop-idle.stream c.poll_next-answer.new.self c.loop-idle._idle c.poll_next-answer.result c.loop-idle.invariant.polled (c.poll_next-answer.ensures.polls, c.poll_next-answer.ensures.told)
      (gave-nothing c.poll_next-answer.result (sym c.gives_something.ensures ∙ c.if-gives_something.false));
}

pub returns-clause-asked : goal.returns-clause-asked
returns-clause-asked g c = record {
  idle = c.loop-idle._idle;
  polled = polls-push (Said g.S.EventStream.polls g.S.EventStream.told) c.args.now.0 c.args.stream.now c.loop-idle.stream c.poll_next.new.self (replicate c.loop-idle._idle (Ok Spent)) c.poll_next.result c.loop-idle.invariant.polled (c.poll_next.ensures.polls, c.poll_next.ensures.told);
  few = (let f = c.requires.fuel in omega (arith, f));
  spent = λ _. (let f = c.requires.fuel in omega (arith, f));
}
