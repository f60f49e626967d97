use Rattle.std.proofs.Common.{◌+◌, inl, Some, None, sym, ◌∙◌, arith}
use Rattle.kube_meta.specs.declared.poll.Next.TheVariants.{Item, Spent}
use Rattle.kube_final.specs.Waits.{next_probed, probed}
use Rattle.kube_final.proofs.WaitLaws.{asks_on, enough, from_taken, never, standing, unspent_next}
use Rattle.kube_final.proofs.WaitLosses.{lost_awaited, whatever_came}
use Rattle.kube_final.proofs.wait.poll_end.Goals as goal

pub returns-in-Some-clause-awaited : goal.returns-in-Some-clause-awaited
returns-in-Some-clause-awaited g c =
    let says = g.C.Condition.says c.args.condition.now in
    enough _ says c.args.now.0 0 c.args.fuel c.args.watch.now (Item (probed c.in-Some.answer)) c.take_end.new.watch tt (omega arith)
    (from_taken _ says c.args.now.0 c.args.watch.now (Some (probed c.in-Some.answer)) c.take_end.new.watch (rw c.in-Some.is at c.in_ok-answer.ensures.taken))

pub loop-asked-init : goal.loop-asked-init
loop-asked-init g c = record {
  live = c.in_ok-answer.ensures.live;
  unspent = c.in_ok-answer.ensures.unspent;
  awaited = from_taken _ (g.C.Condition.says c.args.condition.now) c.args.now.0 c.args.watch.now None c.take_end.new.watch (rw c.in_default.is at c.in_ok-answer.ensures.taken);
}

pub loop-asked-preserved : goal.loop-asked-preserved
loop-asked-preserved g c = record {
  live = c.in_ok-answer-2.ensures.live;
  unspent = c.loop-asked.invariant.unspent;
  awaited = asks_on _ (g.C.Condition.says c.args.condition.now) c.args.now.0 c.loop-asked._asked c.args.watch.now c.loop-asked.watch Spent c.ask_end.new.watch c.loop-asked.invariant.awaited (rw c.in-Spent.is at c.in_ok-answer-2.ensures.asked);
}

pub returns-in_default-2 : goal.returns-in_default-2
returns-in_default-2 g c =
    let says = g.C.Condition.says c.args.condition.now in
    let below = c.loop-asked-test.true in
    let unspent = c.loop-asked.invariant.unspent in
    record {
      awaited = enough _ says c.args.now.0 (c.loop-asked._asked + 1) c.args.fuel c.args.watch.now (next_probed c.in_ok-answer-2.answer) c.ask_end.new.watch (unspent_next c.in_ok-answer-2.answer c.in_default-2.not-Spent) (omega arith)
          (asks_on _ says c.args.now.0 c.loop-asked._asked c.args.watch.now c.loop-asked.watch (next_probed c.in_ok-answer-2.answer) c.ask_end.new.watch c.loop-asked.invariant.awaited c.in_ok-answer-2.ensures.asked);
      live = c.in_ok-answer-2.ensures.live;
      err = tt;
      lost = tt;
      unspent = unspent;
      spent = λ s. never (sym unspent ∙ s);
    }

pub returns-in_err-answer-clause-lost : goal.returns-in_err-answer-clause-lost
returns-in_err-answer-clause-lost g c = whatever_came c.from_residual.result _ (inl (c.in_err-answer.ensures.spent c.in_err-answer.ensures.lost))

pub returns-in_err-answer-2-clause-lost : goal.returns-in_err-answer-2-clause-lost
returns-in_err-answer-2-clause-lost g c =
    whatever_came c.from_residual-in_err-answer-2.result _ (lost_awaited _ (g.C.Condition.says c.args.condition.now) c.args.now.0 c.loop-asked._asked c.args.fuel c.args.watch.now c.loop-asked.watch c.ask_end.new.watch
    (standing c.args.watch.now c.loop-asked.invariant.unspent c.requires.live) c.loop-asked.invariant.awaited c.loop-asked-test.true c.in_err-answer-2.ensures.err c.in_err-answer-2.ensures.lost)
