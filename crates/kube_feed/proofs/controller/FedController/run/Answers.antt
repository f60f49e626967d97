use Rattle.std.proofs.Common.{refl, ap, ◌∙◌}
use Rattle.std.specs.Arc.{arc_value}
use Rattle.kube_asks.specs.declared.asks.AskFault.TheVariants as faults
use Rattle.kube_step.specs.Policies.{Answers}
use Rattle.kube_feed.specs.Fed.{Feeding}
use Rattle.kube_feed.proofs.Runs.{broken-same, never-spent}
use Rattle.kube_feed.proofs.Stops.{faulted-now, refused-now}
use Rattle.kube_feed.proofs.controller.FedController.run.Goals as goal

pub returns-in-Ok-clause-trace : goal.returns-in-Ok-clause-trace
returns-in-Ok-clause-trace g c = rw c.trace_of-in-Ok.ensures c.in-Ok.ensures.ran

pub returns-in-Ok-clause-something : goal.returns-in-Ok-clause-something
returns-in-Ok-clause-something g c = rw c.trace_of-in-Ok.ensures c.take_turns.ensures.something

pub returns-in-Err-Refused-clause-something_before : goal.returns-in-Err-Refused-clause-something_before
returns-in-Err-Refused-clause-something_before g c = rw c.trace_of-trace.ensures c.take_turns.ensures.something

pub returns-in-Err-Refused-clause-refused : goal.returns-in-Err-Refused-clause-refused
returns-in-Err-Refused-clause-refused g c =
    let arm = c.in-Err-Refused in
    let r = refused-now arm.field-0 arm.why _ arm.field-0-is arm.ensures.refused in
    rw (c.trace_of-trace.ensures, c.len-turn.ensures ∙ c.take_turns.new.records.ok.0) (
      refl,
      r.1,
    )

pub returns-in-Err-Faulted-Unnamed-clause-something_before : goal.returns-in-Err-Faulted-Unnamed-clause-something_before
returns-in-Err-Faulted-Unnamed-clause-something_before g c = rw (c.fail.ensures.error, c.trace_of-trace-in-Err-Faulted-Unnamed.ensures) c.take_turns.ensures.something

pub returns-in-Err-Faulted-Unnamed-clause-unnamed : goal.returns-in-Err-Faulted-Unnamed-clause-unnamed
returns-in-Err-Faulted-Unnamed-clause-unnamed g c =
    let arm = c.in-Err-Faulted-Unnamed in
    let b = faulted-now arm.field-0 arm.field-0-0 (faults.Unnamed arm.source) _ arm.field-0-is arm.field-0-0-is arm.ensures.broken in
    rw (c.fail.ensures.error, c.trace_of-trace-in-Err-Faulted-Unnamed.ensures, c.len-turn-in-Err-Faulted-Unnamed.ensures ∙ c.take_turns.new.records.ok.0) (
      refl,
      λ w h s.
          let q = b w h s in
          record {
            made = q.made;
            recorded = q.recorded;
            broken =
                broken-same g.R.RootSource g.S.RelatedSet g.R.Object.Resource (Answers g.P.Fn c.args.error_policy.now (arc_value c.args.context)) w h c.args.turns.items c.args.self.now q.made c.take_turns.new.controller (g.Rc.Reconciler.handed c.args.reconciler.now) (g.Rc.Reconciler.handed c.take_turns.new.reconciler) (faults.Unnamed arm.source) c.fail.new.self (ap (λ (z : Feeding _ _ _ _ _). z.asks) c.fail.ensures.spent) (ap (λ (z : Feeding _ _ _ _ _). z.reader) c.fail.ensures.spent) q.broken;
          },
    )

pub returns-in-Err-Faulted-Unnamed-clause-handed_unnamed : goal.returns-in-Err-Faulted-Unnamed-clause-handed_unnamed
returns-in-Err-Faulted-Unnamed-clause-handed_unnamed g c =
    let arm = c.in-Err-Faulted-Unnamed in
    let b = faulted-now arm.field-0 arm.field-0-0 (faults.Unnamed arm.source) _ arm.field-0-is arm.field-0-0-is arm.ensures.starts_nothing in
    rw (c.fail.ensures.error, c.trace_of-trace-in-Err-Faulted-Unnamed.ensures) b

pub returns-in-Err-Faulted-NoMemory-clause-something_before : goal.returns-in-Err-Faulted-NoMemory-clause-something_before
returns-in-Err-Faulted-NoMemory-clause-something_before g c = rw (c.fail-in-Err-Faulted-NoMemory.ensures.error, c.trace_of-trace-in-Err-Faulted-NoMemory.ensures) c.take_turns.ensures.something

pub returns-in-Err-Faulted-NoMemory-clause-no_memory : goal.returns-in-Err-Faulted-NoMemory-clause-no_memory
returns-in-Err-Faulted-NoMemory-clause-no_memory g c =
    let arm = c.in-Err-Faulted-NoMemory in
    let b = faulted-now arm.field-0 arm.field-0-0 faults.NoMemory _ arm.field-0-is arm.field-0-0-is arm.ensures.broken in
    rw (c.fail-in-Err-Faulted-NoMemory.ensures.error, c.trace_of-trace-in-Err-Faulted-NoMemory.ensures) (λ w h s.
    let q = b w h s in record {
      made = q.made;
      recorded = q.recorded;
      broken =
          broken-same g.R.RootSource g.S.RelatedSet g.R.Object.Resource (Answers g.P.Fn c.args.error_policy.now (arc_value c.args.context)) w h c.args.turns.items c.args.self.now q.made c.take_turns.new.controller (g.Rc.Reconciler.handed c.args.reconciler.now) (g.Rc.Reconciler.handed c.take_turns.new.reconciler) faults.NoMemory c.fail-in-Err-Faulted-NoMemory.new.self (ap (λ (z : Feeding _ _ _ _ _). z.asks) c.fail-in-Err-Faulted-NoMemory.ensures.spent) (ap (λ (z : Feeding _ _ _ _ _). z.reader) c.fail-in-Err-Faulted-NoMemory.ensures.spent) q.broken;
    })

pub returns-clause-something_before : goal.returns-clause-something_before
returns-clause-something_before g c = rw (c.fail-in-Err-Faulted-Spent.ensures.error, c.trace_of-trace-in-Err-Faulted-Spent.ensures) c.take_turns.ensures.something

pub returns-clause-no_memory : goal.returns-clause-no_memory
returns-clause-no_memory g c =
    let arm = c.in-Err-Faulted-Spent in
    let b = faulted-now arm.field-0 arm.field-0-0 faults.Spent _ arm.field-0-is arm.field-0-0-is arm.ensures.broken in
    rw (c.fail-in-Err-Faulted-Spent.ensures.error, c.trace_of-trace-in-Err-Faulted-Spent.ensures) (λ w h s.
    let q = b w h s in
    absurd (never-spent g.R.RootSource g.S.RelatedSet g.R.Object.Resource (Answers g.P.Fn c.args.error_policy.now (arc_value c.args.context)) w h c.args.turns.items c.args.self.now q.made c.take_turns.new.controller (g.Rc.Reconciler.handed c.args.reconciler.now) (g.Rc.Reconciler.handed c.take_turns.new.reconciler) q.broken))
