use Rattle.std.proofs.Common.{ap, sym, subst, ◌∙◌, ◌≡◌, true}
use Rattle.std.specs.Fn.{CalledAt, always_mut}
use Rattle.kube_sched.specs.declared.asks.Ending.TheVariants.{Filled, Waits, Ends}
use Rattle.kube_sched.specs.Runs.{Runs, has_room, ending_by}
use Rattle.std.proofs.lemmas.Result.{err_from_is_err_and}
use Rattle.kube_sched.proofs.Runs.{starting-none, starting-ends, starting-more, starting-last, starting-lost, starting-gone, may-room, both-right}
use Rattle.kube_sched.proofs.runner.Runner.start_all.Goals as goal

pub loop-answer-init : goal.loop-answer-init
loop-answer-init g c =
    record {
      starting = starting-none g.T.PartialEq.eq g.R.Requests.told (CalledAt g.MkF.FnMut) c.args.now c.args.fuel c.args.self.now;
      call = c.requires.call;
    }

pub returns-in_err-answer-clause-call : goal.returns-in_err-answer-clause-call
returns-in_err-answer-clause-call g c = subst (always_mut g.MkF.FnMut) (sym (ap (λ (r : Runs g.row.T.Denot g.row.R.Denot g.row.F.Denot g.row.MkF.Denot g.row.Ready.Denot). r.makes) c.in_err-answer.ensures.rest)) c.loop-answer.invariant.call

pub start-requires-clause-call : goal.start-requires-clause-call
start-requires-clause-call g c = subst (always_mut g.MkF.FnMut) (sym (ap (λ (r : Runs g.row.T.Denot g.row.R.Denot g.row.F.Denot g.row.MkF.Denot g.row.Ready.Denot). r.makes) c.in_ok-answer.ensures.rest)) c.loop-answer.invariant.call

pub start-requires-clause-room : goal.start-requires-clause-room
start-requires-clause-room g c =
    subst (λ (r : Runs g.row.T.Denot g.row.R.Denot g.row.F.Denot g.row.MkF.Denot g.row.Ready.Denot). has_room r.limit r.running ≡ true) (sym c.in_ok-answer.ensures.rest)
    (both-right _ _ (may-room _ _ (c.in_ok-answer.ensures.passes c.in-Item.message c.in-Item.is)))

pub returns-in-NotReady-clause-started : goal.returns-in-NotReady-clause-started
returns-in-NotReady-clause-started g c =
    starting-ends g.T.PartialEq.eq g.R.Requests.told (CalledAt g.MkF.FnMut) c.args.now c.args.fuel c.loop-answer.left c.in_ok-answer.more c.args.self.now c.loop-answer.self
    c.poll_scheduler.new.self c.in_ok-answer.answer Waits c.loop-answer.invariant.starting
    (record { counted = c.in_ok-answer.ensures.polled; passes = c.in_ok-answer.ensures.passes; rest = c.in_ok-answer.ensures.rest }) (ap ending_by c.in-NotReady.is)

pub returns-in-NotReady-clause-call : goal.returns-in-NotReady-clause-call
returns-in-NotReady-clause-call g c = subst (always_mut g.MkF.FnMut) (sym (ap (λ (r : Runs g.row.T.Denot g.row.R.Denot g.row.F.Denot g.row.MkF.Denot g.row.Ready.Denot). r.makes) c.in_ok-answer.ensures.rest)) c.loop-answer.invariant.call

pub returns-in-Spent-clause-started : goal.returns-in-Spent-clause-started
returns-in-Spent-clause-started g c =
    starting-ends g.T.PartialEq.eq g.R.Requests.told (CalledAt g.MkF.FnMut) c.args.now c.args.fuel c.loop-answer.left c.in_ok-answer.more c.args.self.now c.loop-answer.self
    c.poll_scheduler.new.self c.in_ok-answer.answer Filled c.loop-answer.invariant.starting
    (record { counted = c.in_ok-answer.ensures.polled; passes = c.in_ok-answer.ensures.passes; rest = c.in_ok-answer.ensures.rest }) (ap ending_by c.in-Spent.is)

pub returns-in-Spent-clause-call : goal.returns-in-Spent-clause-call
returns-in-Spent-clause-call g c = subst (always_mut g.MkF.FnMut) (sym (ap (λ (r : Runs g.row.T.Denot g.row.R.Denot g.row.F.Denot g.row.MkF.Denot g.row.Ready.Denot). r.makes) c.in_ok-answer.ensures.rest)) c.loop-answer.invariant.call

pub returns-in-End-clause-started : goal.returns-in-End-clause-started
returns-in-End-clause-started g c =
    starting-ends g.T.PartialEq.eq g.R.Requests.told (CalledAt g.MkF.FnMut) c.args.now c.args.fuel c.loop-answer.left c.in_ok-answer.more c.args.self.now c.loop-answer.self
    c.poll_scheduler.new.self c.in_ok-answer.answer Ends c.loop-answer.invariant.starting
    (record { counted = c.in_ok-answer.ensures.polled; passes = c.in_ok-answer.ensures.passes; rest = c.in_ok-answer.ensures.rest }) (ap ending_by c.in-End.is)

pub returns-in-End-clause-call : goal.returns-in-End-clause-call
returns-in-End-clause-call g c = subst (always_mut g.MkF.FnMut) (sym (ap (λ (r : Runs g.row.T.Denot g.row.R.Denot g.row.F.Denot g.row.MkF.Denot g.row.Ready.Denot). r.makes) c.in_ok-answer.ensures.rest)) c.loop-answer.invariant.call

pub returns-then-not-has_room-clause-started : goal.returns-then-not-has_room-clause-started
returns-then-not-has_room-clause-started g c =
    starting-last g.T.PartialEq.eq g.R.Requests.told (CalledAt g.MkF.FnMut) c.args.now c.args.fuel c.loop-answer.left c.in_ok-answer.more c.args.self.now c.loop-answer.self
    c.poll_scheduler.new.self c.start.new.self c.in_ok-answer.answer c.in-Item.message c.loop-answer.invariant.starting
    (record { counted = c.in_ok-answer.ensures.polled; passes = c.in_ok-answer.ensures.passes; rest = c.in_ok-answer.ensures.rest }) c.in-Item.is c.in_ok-start-in-Item.ensures.started
    (sym c.has_room.ensures ∙ c.if-not-has_room.true)

pub loop-answer-preserved : goal.loop-answer-preserved
loop-answer-preserved g c =
    record {
      starting =
          starting-more g.T.PartialEq.eq g.R.Requests.told (CalledAt g.MkF.FnMut) c.args.now c.args.fuel c.loop-answer.left c.in_ok-answer.more c.args.self.now c.loop-answer.self
          c.poll_scheduler.new.self c.start.new.self c.in_ok-answer.answer c.in-Item.message c.loop-answer.invariant.starting
          (record { counted = c.in_ok-answer.ensures.polled; passes = c.in_ok-answer.ensures.passes; rest = c.in_ok-answer.ensures.rest }) c.in-Item.is c.in_ok-start-in-Item.ensures.started
          (sym c.has_room.ensures ∙ c.if-not-has_room.false);
      call = c.in_ok-start-in-Item.ensures.call;
    }

pub returns-in_err-answer-clause-lost : goal.returns-in_err-answer-clause-lost
returns-in_err-answer-clause-lost g c =
    let p = err_from_is_err_and c.from_residual.result c.from_residual.ensures.1 in
    rw p.1 (starting-lost g.T.PartialEq.eq g.R.Requests.told (CalledAt g.MkF.FnMut) c.args.now c.args.fuel c.loop-answer.left c.args.self.now c.loop-answer.self
    c.poll_scheduler.new.self c.loop-answer.invariant.starting c.in_err-answer.ensures.lost c.in_err-answer.ensures.rest)

pub returns-in_err-start-in-Item-clause-lost : goal.returns-in_err-start-in-Item-clause-lost
returns-in_err-start-in-Item-clause-lost g c =
    let p = err_from_is_err_and c.from_residual-in_err-start-in-Item.result c.from_residual-in_err-start-in-Item.ensures.1 in
    rw p.1 (starting-gone g.T.PartialEq.eq g.R.Requests.told (CalledAt g.MkF.FnMut) c.args.now c.args.fuel c.loop-answer.left c.in_ok-answer.more c.args.self.now c.loop-answer.self
    c.poll_scheduler.new.self c.start.new.self c.in_ok-answer.answer c.in-Item.message c.loop-answer.invariant.starting
    (record { counted = c.in_ok-answer.ensures.polled; passes = c.in_ok-answer.ensures.passes; rest = c.in_ok-answer.ensures.rest }) c.in-Item.is c.in_err-start-in-Item.ensures.lost)
