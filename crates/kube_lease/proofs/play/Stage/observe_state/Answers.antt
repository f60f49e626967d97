use Rattle.std.proofs.Common.{◌≡◌, Some, None, slice_get, ap, sym, ◌∙◌}
use Rattle.kube_lease.proofs.Staging.{no_state, state_stage}
use Rattle.kube_lease.proofs.play.Stage.observe_state.Goals as goal

pub returns-in-None-clause-stage : goal.returns-in-None-clause-stage
returns-in-None-clause-stage c es p h m =
    let s = c.args.self.now in
    let nothing : slice_get s.seen.items c.args.state ≡ None = ap (λ os. slice_get os c.args.state) (sym c.as_slice.ensures.value) ∙ sym c.in-None.ensures in
    absurd (no_state es s p c.args.candidate c.args.state h nothing m)

pub returns-clause-stage : goal.returns-clause-stage
returns-clause-stage c es p h m =
    let s = c.args.self.now in
    let there : slice_get s.seen.items c.args.state ≡ Some c.in-Some.object.now = ap (λ os. slice_get os c.args.state) (sym c.as_slice.ensures.value) ∙ sym c.in-Some.ensures in
    state_stage es s c.observe.new.self p c.args.candidate c.args.state c.in-Some.object.now c.in_ok-object-in-Some.object h there c.in_ok-object-in-Some.ensures.cases (c.in_ok-observe.ensures.stage es p)
